-- The lines of a report's statement, and its bytes.
use Rattle.std.specs.Prelude.{ℕ, suc, Option, None, Some, List, [], ◌∷◌, ◌++◌, map}
use Rattle.std.specs.List.{flat_map}
use Rattle.dsr_ledger.specs.meaning.Laws.{key_of_line}
use Rattle.dsr_ledger.specs.declared.report.ReportKey.{ReportKey}
use Rattle.dsr_ledger.specs.declared.report.FileLine.{FileLine}
use Rattle.dsr_ledger.specs.declared.report.LedgerLine.{LedgerLine}
use Rattle.dsr_ledger.specs.declared.report.Report.{Report}
use Rattle.dsr_statement.specs.declared.line.Line.{Line}
use Rattle.dsr_statement.specs.declared.line.Line.TheVariants as lines
use Rattle.dsr_statement.specs.meaning.Lines.{line_bytes}

abbrev pub head_of : Option ReportKey → Line
head_of None = lines.NoReport
head_of (Some key) = lines.Report key

-- the lines of the files, the first of which has this place in the order given
abbrev pub files_from : ℕ → List FileLine → List Line
files_from place [] = []
files_from place (f ∷ fs) = lines.File place f ∷ files_from (suc place) fs

-- the lines of a ledger line: its sums, then its parties, then the unclaimed amount
abbrev pub lines_of_ledger : LedgerLine → List Line
lines_of_ledger l =
    lines.Ledger (key_of_line l) l.usages l.amount ∷ (map (λ p. lines.Party (key_of_line l) p) l.parties
    ++ lines.Unclaimed (key_of_line l) l.unclaimed ∷ [])

-- the lines of a report's statement
abbrev pub statement_lines : Report → List Line
statement_lines r =
    head_of r.key ∷ (files_from 1 r.files ++ (map (λ n. lines.Missing n) r.missing ++ (map (λ d. lines.Summary d) r.differences
    ++ (flat_map lines_of_ledger r.ledger ++ map (λ x. lines.Reject x) r.rejects))))

-- the bytes of lines
abbrev pub text_of : List Line → List ℕ
text_of ls = flat_map line_bytes ls

-- the statement of a report
unfoldable pub statement_of : Report → List ℕ
statement_of r = text_of (statement_lines r)
