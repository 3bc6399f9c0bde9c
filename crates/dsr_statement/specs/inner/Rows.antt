-- Parts of the texts of lines, and the lines of a ledger line.
use Rattle.std.specs.Prelude.{ℕ, List, [], ◌∷◌, map}
use Rattle.std.specs.List.{join_with_byte}
use Rattle.dsr_ledger.specs.meaning.Bookings.{Key}
use Rattle.dsr_ledger.specs.meaning.Laws.{key_of_line}
use Rattle.dsr_ledger.specs.declared.report.LedgerLine.{LedgerLine}
use Rattle.dsr_ledger.specs.declared.report.PartyLine.{PartyLine}
use Rattle.dsr_statement.specs.declared.line.Line.TheVariants as lines
use Rattle.dsr_statement.specs.meaning.Cells.{Cell, cell_text}
use Rattle.dsr_statement.specs.meaning.Lines.{key_cells, line_bytes}
use Rattle.dsr_statement.specs.meaning.Statement.{lines_of_ledger, text_of}

-- what cells print, each after a tab
abbrev pub tabbed : List Cell → List ℕ
tabbed cells = 9 ∷ join_with_byte 9 (map cell_text cells)

abbrev pub key_text : Key → List ℕ
key_text key = tabbed (key_cells key [])

-- the bytes of the lines of a ledger line
abbrev pub sums_bytes : LedgerLine → List ℕ
sums_bytes l = line_bytes (lines.Ledger (key_of_line l) l.usages l.amount)

abbrev pub party_bytes : LedgerLine → PartyLine → List ℕ
party_bytes l p = line_bytes (lines.Party (key_of_line l) p)

abbrev pub unclaimed_bytes : LedgerLine → List ℕ
unclaimed_bytes l = line_bytes (lines.Unclaimed (key_of_line l) l.unclaimed)

abbrev pub ledger_bytes : LedgerLine → List ℕ
ledger_bytes l = text_of (lines_of_ledger l)
