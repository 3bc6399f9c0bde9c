-- Statements that were read whole: which of them are refused, and the text of the totals of the others.
use Rattle.std.specs.Prelude.{ℕ, suc, ◌==◌, ◌&&◌, Bool, true, false, List, [], ◌∷◌, ◌++◌, Option, None, Some, option_map, map, codes, decimal, is_some, if◌then◌else◌}
use Rattle.std.specs.List.{flat_map, list_any, position}
use Rattle.std.specs.Str.{bytes_eq}
use Rattle.dsr_cells.specs.meaning.Written.{written_day}
use Rattle.dsr_cells.specs.meaning.Days.{CivilDay}
use Rattle.dsr_ledger.specs.declared.report.ReportKey.{ReportKey}
use Rattle.dsr_statement.specs.declared.line.Line.{Line}
use Rattle.dsr_statement.specs.declared.line.Line.TheVariants as lines
use Rattle.dsr_statement.specs.declared.fault.StatementFault.{StatementFault}
use Rattle.dsr_statement.specs.declared.fault.StatementFault.TheVariants as faults
use Rattle.dsr_statement.specs.meaning.Readings.{Refusal}
use Rattle.dsr_sums.specs.declared.reports.StatementReport.{StatementReport}
use Rattle.dsr_sums.specs.declared.reports.Role.{Role}
use Rattle.dsr_sums.specs.declared.reports.Role.TheVariants.{Given, Paid}
use Rattle.dsr_sums.specs.declared.rules.Rules.{Rules}
use Rattle.dsr_sums.specs.meaning.Totals.{Booked, booked, line, sums_text}

-- a statement that was read whole: its report, and its lines
pub record Statement : Type 0 where
  pub report : StatementReport
  pub lines : List Line

abbrev pub key_of_line : Line → Option ReportKey
key_of_line (lines.Report key) = Some key
key_of_line _ = None

abbrev pub either : {A : Type 0} → Option A → Option A → Option A
either (Some x) o = Some x
either None o = o

-- the report that the lines name
abbrev pub key_of_lines : List Line → Option ReportKey
key_of_lines [] = None
key_of_lines (l ∷ ls) = either (key_of_line l) (key_of_lines ls)

abbrev pub day_eq : CivilDay → CivilDay → Bool
day_eq a b = (a.year == b.year) && ((a.month == b.month) && (a.day == b.day))

-- the same report: the same MessageId, number of files, first and last day
abbrev pub is_same_report : ReportKey → ReportKey → Bool
is_same_report a b =
    bytes_eq a.message_id b.message_id
    && ((a.number_of_files == b.number_of_files) && (day_eq a.first_day b.first_day && day_eq a.last_day b.last_day))

abbrev pub role_eq : Role → Role → Bool
role_eq Given Given = true
role_eq Given Paid = false
role_eq Paid Given = false
role_eq Paid Paid = true

-- a statement with this role and this report
abbrev pub is_of_report : Role → ReportKey → StatementReport → Bool
is_of_report role key r = role_eq r.role role && is_same_report key r.key

-- a given statement of this message
abbrev pub is_of_message : List ℕ → StatementReport → Bool
is_of_message message r = role_eq r.role Given && bytes_eq message r.key.message_id

-- a statement with this role has this report
abbrev pub has_report : Role → ReportKey → List StatementReport → Bool
has_report role key rs = list_any (is_of_report role key) rs

abbrev pub at_first_line : StatementFault → Refusal
at_first_line fault = record { line = 1; fault = fault }

-- an earlier statement with the same role has the same report; the fault has the place of the first one, from 0
abbrev pub twice : List StatementReport → StatementReport → Option Refusal
twice earlier r = option_map (λ place. at_first_line (faults.Twice place)) (position (is_of_report r.role r.key) earlier)

-- an earlier given statement is of the same message
abbrev pub same_message : List StatementReport → StatementReport → Option Refusal
same_message earlier r = option_map (λ place. at_first_line (faults.SameMessage place)) (position (is_of_message r.key.message_id) earlier)

-- the fault of a given statement whose report no earlier given one has
abbrev pub given_fault : Rules → List StatementReport → StatementReport → Option Refusal
given_fault rules earlier r =
    either (if rules.same_message then None else same_message earlier r)
    (if rules.with_remarks then None else option_map (λ n. record { line = n; fault = faults.Remarks }) r.remark)

-- the fault of a statement whose report no earlier one of its role has
abbrev pub fault_of_role : Rules → List StatementReport → Role → StatementReport → Option Refusal
fault_of_role rules earlier Given r = given_fault rules earlier r
fault_of_role rules earlier Paid r = if has_report Given r.key earlier then None else Some (at_first_line faults.NotGiven)

-- the fault of a statement after the earlier ones
unfoldable pub fault_after : Rules → List StatementReport → StatementReport → Option Refusal
fault_after rules earlier r = either (twice earlier r) (fault_of_role rules earlier r.role r)

-- the line of a given statement at this place among them, from 1
unfoldable pub statement_line : ℕ → Bool → StatementReport → List ℕ
statement_line place is_paid r = line (codes "STATEMENT")
    (decimal place ∷ r.key.message_id ∷ decimal r.key.number_of_files ∷ written_day r.key.first_day ∷ written_day r.key.last_day
    ∷ (if is_some r.remark then codes "Remarks" else codes "Clean") ∷ (if is_paid then codes "Paid" else codes "-") ∷ [])

-- the lines of the given ones of these statements, the first of which has this place, among all
abbrev pub statement_lines : ℕ → List StatementReport → List StatementReport → List ℕ
statement_lines place all [] = []
statement_lines place all (r ∷ rs) =
    if role_eq r.role Given then statement_line place (has_report Paid r.key all) r ++ statement_lines (suc place) all rs
    else statement_lines place all rs

-- the lines of statements, each with what its statement stands for
abbrev pub booked_lines : List Statement → List Booked
booked_lines ss = flat_map (λ s. map (booked s.report.role) s.lines) ss

abbrev pub reports_of : List Statement → List StatementReport
reports_of ss = map (λ s. s.report) ss

-- the text of the totals of statements
unfoldable pub totals_text : List Statement → List ℕ
totals_text ss = statement_lines 1 (reports_of ss) (reports_of ss) ++ sums_text (booked_lines ss)
