-- Whether a statement has remarks: by its report, and by its lines.
use Rattle.std.specs.Prelude.{ℕ, suc, Bool, true, false, not, ◌&&◌, is_some, if◌then◌else◌, List, [], ◌∷◌, Option, None, Some}
use Rattle.std.specs.List.{list_all, list_any}
use Rattle.dsr_events.specs.declared.fault.Outcome.{Outcome}
use Rattle.dsr_events.specs.declared.fault.Outcome.TheVariants.{Whole, Fault}
use Rattle.dsr_ledger.specs.declared.report.FileLine.{FileLine}
use Rattle.dsr_ledger.specs.declared.report.Report.{Report}
use Rattle.dsr_ledger.specs.meaning.Findings.{is_ours}
use Rattle.dsr_statement.specs.declared.line.Line.{Line}
use Rattle.dsr_statement.specs.declared.line.Line.TheVariants as lines
use Rattle.dsr_statement.specs.declared.verdict.Status.{Status}
use Rattle.dsr_statement.specs.declared.verdict.Status.TheVariants.{Clean, Remarks}

abbrev pub is_whole : Outcome → Bool
is_whole Whole = true
is_whole (Fault line fault) = false

abbrev pub is_clean_file : FileLine → Bool
is_clean_file f = is_ours f.standing && is_whole f.outcome

abbrev pub is_nil : {A : Type 0} → List A → Bool
is_nil [] = true
is_nil (x ∷ xs) = false

-- there is a report key, every file is Ours and whole, and there are no missing files, differences or rejects
abbrev pub is_clean : Report → Bool
is_clean r =
    is_some r.key && (list_all is_clean_file r.files && (is_nil r.missing && (is_nil r.differences && is_nil r.rejects)))

abbrev pub status_of : Report → Status
status_of r = if is_clean r then Clean else Remarks

-- a line that is a remark: of no report, a file that is not Ours or not whole, a missing file, a difference, a rejected block
abbrev pub is_remark : Line → Bool
is_remark lines.NoReport = true
is_remark (lines.File place f) = not (is_clean_file f)
is_remark (lines.Missing number) = true
is_remark (lines.Summary d) = true
is_remark (lines.Reject r) = true
is_remark _ = false

-- the number of the first remark's line, where the first line has this number
abbrev pub first_remark : ℕ → List Line → Option ℕ
first_remark n [] = None
first_remark n (l ∷ ls) = if is_remark l then Some n else first_remark (suc n) ls

abbrev pub status_of_lines : List Line → Status
status_of_lines ls = if list_any is_remark ls then Remarks else Clean

abbrev pub status_eq : Status → Status → Bool
status_eq Clean Clean = true
status_eq Clean Remarks = false
status_eq Remarks Clean = false
status_eq Remarks Remarks = true
