-- Which lists of lines are statements, and which of these are sealed; and which reports are read again.
use Rattle.std.specs.Prelude.{◌≡◌, ℕ, ◌<◌, ◌&&◌, ◌||◌, ◌==◌, nat_lt, nat_le, not, Bool, true, List, [], ◌∷◌, length, reverse, Some, Ok}
use Rattle.std.specs.List.{list_all, AllByRecursion}
use Rattle.std.specs.Str.{is_utf8}
use Rattle.dsr_ledger.specs.meaning.Laws.{key_of_line}
use Rattle.dsr_ledger.specs.layer.Laws.{AddsUp}
use Rattle.dsr_ledger.specs.declared.report.ReportKey.{ReportKey}
use Rattle.dsr_ledger.specs.declared.report.LedgerLine.{LedgerLine}
use Rattle.dsr_ledger.specs.declared.report.Reject.{Reject}
use Rattle.dsr_ledger.specs.declared.report.Report.{Report}
use Rattle.dsr_statement.specs.declared.line.Line.{Line}
use Rattle.dsr_statement.specs.meaning.Lines.{line_text, is_line}
use Rattle.dsr_statement.specs.meaning.Order.{placed, is_complete, is_sealed, is_key_below, is_text_below}
use Rattle.dsr_statement.specs.meaning.Readings.{most_bytes}
use Rattle.dsr_statement.specs.meaning.Statement.{statement_lines}

-- a text without a line feed
abbrev pub has_no_feed : List ℕ → Bool
has_no_feed text = list_all (λ b. not (b == 10)) text

-- a line is UTF-8, not too long, and one line
abbrev pub is_text : Line → Bool
is_text l = is_utf8 (line_text l) && (nat_le (length (line_text l)) most_bytes && has_no_feed (line_text l))

-- each line may stand after those before it, the latest first, and the last one may be the last
abbrev pub AreInPlace : List Line → List Line → Type 0
AreInPlace before [] = is_complete before ≡ true
AreInPlace before (l ∷ ls) = (placed before l ≡ Ok l) × AreInPlace (l ∷ before) ls

-- these lines are a statement
pub record IsStatement (ls : List Line) : Type 0 where
  pub spelled : list_all is_line ls ≡ true
  pub texts : list_all is_text ls ≡ true
  pub places : AreInPlace [] ls

-- these lines are a statement that is sealed: the last one is END
pub record IsSealed (ls : List Line) : Type 0 where
  pub statement : IsStatement ls
  pub sealed : is_sealed (reverse ls) ≡ true

-- each item and the next one pass
abbrev pub all_adjacent : {X : Type 0} → (X → X → Bool) → List X → Bool
all_adjacent passes [] = true
all_adjacent passes (x ∷ []) = true
all_adjacent passes (x ∷ y ∷ more) = passes x y && all_adjacent passes (y ∷ more)

abbrev pub are_parties_in_order : LedgerLine → Bool
are_parties_in_order l = all_adjacent (λ p q. is_text_below p.party q.party) l.parties

abbrev pub is_before : Reject → Reject → Bool
is_before a b = nat_lt a.file b.file || ((a.file == b.file) && nat_lt a.position b.position)

-- a report that is read again from its statement: it has a key and a file; its numbers are in their ranges, and its texts
-- spelled as in a report and without TABs and line feeds; its lists are in order, and the amounts of each ledger line add up
pub record IsReadable (k : ReportKey) (r : Report) : Type 0 where
  pub key : r.key ≡ Some k
  pub files : 0 < length r.files
  pub spelled : list_all is_line (statement_lines r) ≡ true
  pub texts : list_all is_text (statement_lines r) ≡ true
  pub missing : all_adjacent nat_lt r.missing ≡ true
  pub differences : all_adjacent (λ a b. nat_le a.file b.file) r.differences ≡ true
  pub ledger : all_adjacent (λ a b. is_key_below (key_of_line a) (key_of_line b)) r.ledger ≡ true
  pub parties : list_all are_parties_in_order r.ledger ≡ true
  pub sums : AllByRecursion AddsUp r.ledger
  pub rejects : all_adjacent is_before r.rejects ≡ true
