-- The names that a statement prints.
use Rattle.std.specs.Prelude.{ℕ, List, codes}
use Rattle.dsr_ledger.specs.declared.verdict.Standing.{Standing}
use Rattle.dsr_ledger.specs.declared.verdict.Standing.TheVariants as standing
use Rattle.dsr_ledger.specs.declared.verdict.Reason.{Reason}
use Rattle.dsr_ledger.specs.declared.verdict.Reason.TheVariants as reason
use Rattle.dsr_statement.specs.declared.line.LineKind.{LineKind}
use Rattle.dsr_statement.specs.declared.line.LineKind.TheVariants as kinds
use Rattle.dsr_statement.specs.declared.verdict.Status.{Status}
use Rattle.dsr_statement.specs.declared.verdict.Status.TheVariants as statuses

-- the names of the lines
abbrev pub kind_name : LineKind → List ℕ
kind_name kinds.Report = codes "REPORT"
kind_name kinds.NoReport = codes "NOREPORT"
kind_name kinds.File = codes "FILE"
kind_name kinds.Missing = codes "MISSING"
kind_name kinds.Summary = codes "SUMMARY"
kind_name kinds.Ledger = codes "LEDGER"
kind_name kinds.Party = codes "PARTY"
kind_name kinds.Unclaimed = codes "UNCLAIMED"
kind_name kinds.Reject = codes "REJECT"
kind_name kinds.Layout = codes "LAYOUT"
kind_name kinds.Input = codes "INPUT"
kind_name kinds.End = codes "END"

unfoldable pub standing_name : Standing → List ℕ
standing_name standing.Ours = codes "Ours"
standing_name standing.Foreign = codes "Foreign"
standing_name standing.Doubled = codes "Doubled"
standing_name standing.Headless = codes "Headless"

unfoldable pub reason_name : Reason → List ℕ
reason_name reason.ForeignFile = codes "ForeignFile"
reason_name reason.DoubledFile = codes "DoubledFile"
reason_name reason.DoubledBlock = codes "DoubledBlock"
reason_name reason.NoIsrc = codes "NoIsrc"
reason_name reason.BadIsrc = codes "BadIsrc"
reason_name reason.UnknownSummary = codes "UnknownSummary"
reason_name reason.ShareOver = codes "ShareOver"

unfoldable pub status_name : Status → List ℕ
status_name statuses.Clean = codes "Clean"
status_name statuses.Remarks = codes "Remarks"
