-- What the totals of the texts of statements are, or why there are none.
use Rattle.std.specs.Prelude.{ℕ, suc, Bool, ◌||◌, if◌then◌else◌, List, [], ◌∷◌, ◌++◌, length, reverse, Option, None, Some, Result, Ok, Err}
use Rattle.dsr_ledger.specs.declared.report.ReportKey.{ReportKey}
use Rattle.dsr_statement.specs.declared.fault.StatementFault.TheVariants as faults
use Rattle.dsr_statement.specs.declared.line.Line.{Line}
use Rattle.dsr_statement.specs.meaning.Order.{is_sealed}
use Rattle.dsr_statement.specs.meaning.Readings.{Refusal, IsReadingOf}
use Rattle.dsr_statement.specs.meaning.Status.{first_remark}
use Rattle.dsr_sums.specs.declared.answer.TotalsError.{TotalsError}
use Rattle.dsr_sums.specs.declared.answer.TotalsError.TheVariants.{Refused, OutOfRange}
use Rattle.dsr_sums.specs.declared.reports.Role.{Role}
use Rattle.dsr_sums.specs.declared.rules.Rules.{Rules}
use Rattle.dsr_sums.specs.meaning.Totals.{are_in_range}
use Rattle.dsr_sums.specs.meaning.Statements.{Statement, at_first_line, booked_lines, fault_after, key_of_lines, reports_of, totals_text}

-- what was read of a statement: its bytes, and whether a read failed after them; and what they are read as
pub record StatementText : Type 0 where
  pub role : Role
  pub bytes : List ℕ
  pub failed : Bool
  pub read : Result (List Line) Refusal
  pub is_read : IsReadingOf bytes failed read

-- the statement that lines are
abbrev pub statement_with : Role → List Line → Option ReportKey → Result Statement Refusal
statement_with role ls None = Err (at_first_line faults.NoReport)
statement_with role ls (Some key) = Ok (record { report = record { role = role; key = key; remark = first_remark 1 ls }; lines = ls })

-- the same, if they end with END or need not: statements without a seal are taken, too
abbrev pub whole_statement : Bool → Role → List Line → Result Statement Refusal
whole_statement unsealed role ls =
    if unsealed || is_sealed (reverse ls) then statement_with role ls (key_of_lines ls)
    else Err (record { line = suc (length ls); fault = faults.Unsealed })

abbrev pub statement_of : Bool → Role → Result (List Line) Refusal → Result Statement Refusal
statement_of unsealed role (Ok ls) = whole_statement unsealed role ls
statement_of unsealed role (Err refusal) = Err refusal

-- the statement that a text is, or its first fault
abbrev pub statement_in : Rules → StatementText → Result Statement Refusal
statement_in rules text = statement_of rules.unsealed text.role text.read

abbrev pub unless : {A : Type 0} → A → Option Refusal → Result A Refusal
unless x None = Ok x
unless x (Some refusal) = Err refusal

-- a statement, if it has no fault after the earlier ones
abbrev pub accepted : Rules → List Statement → Result Statement Refusal → Result Statement Refusal
accepted rules earlier (Ok s) = unless s (fault_after rules (reports_of earlier) s.report)
accepted rules earlier (Err refusal) = Err refusal

-- the earlier statements with one more, or where it is refused: its place among all, from 0, and its fault
abbrev pub joined : List Statement → Result Statement Refusal → Result (List Statement) TotalsError
joined earlier (Ok s) = Ok (earlier ++ s ∷ [])
joined earlier (Err refusal) = Err (Refused (length earlier) refusal.line refusal.fault)

-- the statements that were read, and the next text; the first refusal stays
abbrev pub and_then : Rules → Result (List Statement) TotalsError → StatementText → Result (List Statement) TotalsError
and_then rules (Ok earlier) text = joined earlier (accepted rules earlier (statement_in rules text))
and_then rules (Err error) text = Err error

-- the statements that texts are, after those that were read; or the first refusal
abbrev pub statements_after : Rules → Result (List Statement) TotalsError → List StatementText → Result (List Statement) TotalsError
statements_after rules read [] = read
statements_after rules read (text ∷ texts) = statements_after rules (and_then rules read text) texts

-- the text of the totals, if no sum leaves the range of 128 bits
abbrev pub totals_of : Result (List Statement) TotalsError → Result (List ℕ) TotalsError
totals_of (Ok ss) = if are_in_range (booked_lines ss) then Ok (totals_text ss) else Err OutOfRange
totals_of (Err error) = Err error

-- the totals of the texts of statements: the given ones, and then those that were paid
abbrev pub totals : Rules → List StatementText → Result (List ℕ) TotalsError
totals rules texts = totals_of (statements_after rules (Ok []) texts)
