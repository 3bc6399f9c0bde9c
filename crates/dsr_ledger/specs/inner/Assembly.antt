-- The parts of the report that are made of the files' states.
use Rattle.std.specs.Prelude.{ℕ, Bool, not, ◌&&◌, Option, None, Some, List, [], filter, map, option_map, if◌then◌else◌}
use Rattle.std.specs.List.{list_any, range_with_len}
use Rattle.dsr_events.specs.declared.record.Head.{Head}
use Rattle.dsr_events.specs.declared.record.Summary.{Summary}
use Rattle.dsr_ledger.specs.declared.sums.Sums.{Sums}
use Rattle.dsr_ledger.specs.declared.file.summaries.Summaries.{Summaries}
use Rattle.dsr_ledger.specs.declared.file.FileBooks.{FileBooks}
use Rattle.dsr_ledger.specs.declared.report.FileLine.{FileLine}
use Rattle.dsr_ledger.specs.declared.report.Difference.{Difference}
use Rattle.dsr_ledger.specs.meaning.Files.{summaries_of}
use Rattle.dsr_ledger.specs.meaning.Findings.{is_ours, ended_whole, differs, has_number}
use Rattle.dsr_ledger.specs.inner.Summaries.{no_sums, sums_at}
use Rattle.dsr_ledger.specs.meaning.Reports.{outcome_of}

-- the report's line of a file
abbrev pub line_kept : FileBooks → FileLine
line_kept f = record {
  number = option_map (λ o. o.head.file_number) f.opening;
  standing = f.standing;
  blocks = f.blocks;
  outcome = outcome_of f.outcome;
}

-- the file has the standing Ours and this file number
abbrev pub is_number_kept : ℕ → FileBooks → Bool
is_number_kept n f = is_ours f.standing && has_number n f.opening

-- the file numbers from 1 to the report's number of files, inclusive, that no file with the standing Ours has
abbrev pub missing_kept : Option Head → List FileBooks → List ℕ
missing_kept None fs = []
missing_kept (Some head) fs = filter (λ n. not (list_any (is_number_kept n) fs)) (range_with_len 1 head.number_of_files)

-- the sums of a summary's state; zeros if there is none
abbrev pub sums_or_zeros : Option Sums → Sums
sums_or_zeros None = no_sums
sums_or_zeros (Some s) = s

-- the usages and the amount that a summary states, with these sums as those found
abbrev pub difference_to : ℕ → Sums → Summary → Difference
difference_to place found s = record {
  file = place;
  summary_id = s.id;
  stated_usages = s.usages;
  found_usages = found.usages;
  stated_amount = s.amount;
  found_amount = found.amount;
}

-- the differences of the summaries that state other sums than were found
abbrev pub differences_to : ℕ → Summaries → List Summary → List Difference
differences_to place summaries ss = filter differs (map (λ s. difference_to place (sums_or_zeros (sums_at summaries s.id)) s) ss)

-- the differences of a file: none unless its standing is Ours and it ended whole
abbrev pub differences_kept : FileBooks → List Difference
differences_kept f =
    if is_ours f.standing && ended_whole f.outcome then differences_to f.place f.summaries (summaries_of f.opening) else []
