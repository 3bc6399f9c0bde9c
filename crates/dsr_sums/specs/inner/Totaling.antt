-- Statements that were read, and what they add up to.
use Rattle.std.specs.Prelude.{◌≡◌, ℕ, ◌++◌, Bool, List, [], ◌∷◌, length, Result, Ok, Err}
use Rattle.std.specs.List.{flat_map}
use Rattle.dsr_io.specs.meaning.Told.{Told}
use Rattle.dsr_statement.specs.meaning.Readings.{Refusal, IsReadingOf}
use Rattle.dsr_statement.specs.declared.line.Line.{Line}
use Rattle.dsr_sums.specs.declared.answer.Totaling.{Totaling}
use Rattle.dsr_sums.specs.declared.answer.TotalsError.{TotalsError}
use Rattle.dsr_sums.specs.declared.answer.TotalsError.TheVariants as totals_errors
use Rattle.dsr_sums.specs.declared.reading.ReadingError.{ReadingError}
use Rattle.dsr_sums.specs.declared.reading.ReadingError.TheVariants as errors
use Rattle.dsr_sums.specs.declared.reports.StatementReport.{StatementReport}
use Rattle.dsr_sums.specs.declared.reports.Role.{Role}
use Rattle.dsr_sums.specs.declared.rules.Rules.{Rules}
use Rattle.dsr_sums.specs.declared.totals.Totals.{Totals}
use Rattle.dsr_sums.specs.meaning.Answers.{StatementText, accepted, statement_in, statements_after, totals_of}
use Rattle.dsr_sums.specs.meaning.Sources.{Gave, GaveEach}
use Rattle.dsr_sums.specs.meaning.Statements.{Statement, booked_lines, reports_of, statement_lines}
use Rattle.dsr_sums.specs.meaning.Totals.{currency_line, market_line, party_line}
use Rattle.dsr_sums.specs.inner.Books.{HoldsLines}
use Rattle.dsr_sums.specs.inner.Readings.{text_with, IsErrorOf}

-- these statements were read
pub record HoldsStatements (t : Totaling) (ss : List Statement) : Type 0 where
  pub lines : HoldsLines t.totals (booked_lines ss)
  pub reports : t.reports.items ≡ reports_of ss

-- the text of totals whose accounts are sorted
abbrev pub sorted_text : Totals → List StatementReport → List ℕ
sorted_text totals reports =
    statement_lines 1 reports reports ++ (flat_map currency_line totals.currencies.sums.entries
    ++ (flat_map market_line totals.markets.sums.entries ++ flat_map party_line totals.parties.sums.entries))

-- a statement was read and added, or refused
abbrev pub IsNext : Result Statement Refusal → List Statement → Totaling → Result (Unit {0}) ReadingError → Type 0
IsNext next ss t (Ok done) = (s : Statement) × (next ≡ Ok s) × HoldsStatements t (ss ++ s ∷ [])
IsNext next ss t (Err e) = IsErrorOf next e

-- the source gave the text of the next statement; unless memory was refused
abbrev pub ReadsNext : Rules → Told → Told → Role → List Statement → Totaling → Result (Unit {0}) ReadingError → Type 0
ReadsNext rules before after role ss t (Err errors.Memory) = Unit {0}
ReadsNext rules before after role ss t result =
    (bytes : List ℕ) × (failed : Bool) × (read : Result (List Line) Refusal) × (is : IsReadingOf bytes failed read)
    × Gave before after (text_with role bytes failed read is)
    × IsNext (accepted rules ss (statement_in rules (text_with role bytes failed read is))) ss t result

-- the error of the statement at this place
abbrev pub error_of : ℕ → ReadingError → TotalsError
error_of place (errors.Refused line fault) = totals_errors.Refused place line fault
error_of place errors.Memory = totals_errors.Memory

-- why statements have no totals, unless memory was refused
abbrev pub IsNoTextOf : List Statement → TotalsError → Type 0
IsNoTextOf ss totals_errors.OutOfRange = totals_of (Ok ss) ≡ Err totals_errors.OutOfRange
IsNoTextOf ss totals_errors.Memory = Unit {0}
IsNoTextOf ss (totals_errors.Refused place line fault) = ⊥

-- the first sources were read, as many as `place`
pub record HaveRead {R : Type 0} (told : R → Told) (given : ℕ) (rules : Rules) (place : ℕ) (before now : List R) (t : Totaling) : Type 0 where
  pub front : List R
  pub changed : List R
  pub rest : List R
  pub texts : List StatementText
  pub ss : List Statement
  pub was : before ≡ front ++ rest
  pub is : now ≡ changed ++ rest
  pub places : length front ≡ place
  pub count : length ss ≡ place
  pub many : length texts ≡ place
  pub gave : GaveEach told given 0 front changed texts
  pub read : statements_after rules (Ok []) texts ≡ Ok ss
  pub holds : HoldsStatements t ss
  pub rules_are : t.rules ≡ rules
