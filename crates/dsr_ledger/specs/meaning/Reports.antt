-- The report of a list of files.
use Rattle.std.specs.Prelude.{ℕ, Option, None, Some, List, map, option_map, length}
use Rattle.dsr_events.specs.declared.record.Head.{Head}
use Rattle.dsr_events.specs.declared.fault.Outcome.{Outcome}
use Rattle.dsr_events.specs.declared.fault.Outcome.TheVariants.{Whole}
use Rattle.dsr_ledger.specs.declared.report.ReportKey.{ReportKey}
use Rattle.dsr_ledger.specs.declared.report.FileLine.{FileLine}
use Rattle.dsr_ledger.specs.declared.report.Report.{Report}
use Rattle.dsr_ledger.specs.meaning.Files.{File, Filed, filed, first_head}
use Rattle.dsr_ledger.specs.meaning.Bookings.{bookings}
use Rattle.dsr_ledger.specs.meaning.Ledger.{ledger}
use Rattle.dsr_ledger.specs.meaning.Findings.{differences, missing_for, rejects}

-- the report key of a head
abbrev pub key_of : Head → ReportKey
key_of h = record {
  message_id = h.message_id;
  number_of_files = h.number_of_files;
  first_day = h.first_day;
  last_day = h.last_day;
}

-- the outcome of a file; a report is made only of files that have ended, so the value for None is never used
abbrev pub outcome_of : Option Outcome → Outcome
outcome_of None = Whole
outcome_of (Some o) = o

-- the report's line of a file
abbrev pub file_line : Filed → FileLine
file_line d = record {
  number = option_map (λ o. o.head.file_number) d.file.opening;
  standing = d.standing;
  blocks = length d.file.blocks;
  outcome = outcome_of d.file.outcome;
}

-- the head of the first file that has an opening
abbrev pub report_head : List File → Option Head
report_head files = first_head (map (λ f. f.opening) files)

-- the missing file numbers of a report, ascending; none if no file has an opening
unfoldable pub missing : List File → List ℕ
missing files = missing_for (report_head files) (filed files)

-- the report of files that have all ended
unfoldable pub report_of : List File → Report
report_of files = record {
  key = option_map key_of (report_head files);
  files = map file_line (filed files);
  missing = missing files;
  differences = differences files;
  ledger = ledger (bookings files);
  rejects = rejects files;
}
