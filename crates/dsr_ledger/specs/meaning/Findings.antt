-- The findings of a report: differences, missing files and rejected blocks.
use Rattle.std.specs.Prelude.{ℕ, ◌+◌, Bool, true, false, not, ◌==◌, ◌&&◌, Option, None, Some, List, [], ◌∷◌, filter, map}
use Rattle.std.specs.List.{flat_map, list_any, range_with_len}
use Rattle.std.specs.Str.{bytes_eq}
use Rattle.std.specs.Ordering.{int_eq}
use Rattle.dsr_events.specs.declared.record.Head.{Head}
use Rattle.dsr_events.specs.declared.record.Summary.{Summary}
use Rattle.dsr_events.specs.declared.record.Usage.{Usage}
use Rattle.dsr_events.specs.meaning.Blocks.{BlockParts}
use Rattle.dsr_events.specs.declared.fault.Outcome.{Outcome}
use Rattle.dsr_events.specs.declared.fault.Outcome.TheVariants.{Whole, Fault}
use Rattle.dsr_events.specs.meaning.Openings.{OpeningParts}
use Rattle.dsr_ledger.specs.declared.verdict.Standing.{Standing}
use Rattle.dsr_ledger.specs.declared.verdict.Standing.TheVariants.{Ours, Foreign, Doubled, Headless}
use Rattle.dsr_ledger.specs.declared.verdict.Verdict.{Verdict}
use Rattle.dsr_ledger.specs.declared.verdict.Verdict.TheVariants.{Booked, Rejected}
use Rattle.dsr_ledger.specs.declared.report.Difference.{Difference}
use Rattle.dsr_ledger.specs.declared.report.Reject.{Reject}
use Rattle.dsr_ledger.specs.meaning.Limits.{int_sum_by}
use Rattle.dsr_ledger.specs.meaning.Files.{File, Filed, filed, summaries_of}
use Rattle.dsr_ledger.specs.meaning.Verdicts.{judged_in}

abbrev pub is_ours : Standing → Bool
is_ours Ours = true
is_ours Foreign = false
is_ours Doubled = false
is_ours Headless = false

abbrev pub ended_whole : Option Outcome → Bool
ended_whole (Some Whole) = true
ended_whole (Some (Fault line fault)) = false
ended_whole None = false

-- all usages of the blocks, booked or rejected
abbrev pub usages_in : List BlockParts → List Usage
usages_in blocks = flat_map (λ b. b.usages) blocks

-- the usages that name the summary with this identifier
abbrev pub naming : List ℕ → List Usage → List Usage
naming id us = filter (λ u. bytes_eq id u.summary_id) us

-- the usages and the amount that a summary states, with the sums of the usages that name it
abbrev pub difference : ℕ → List Usage → Summary → Difference
difference place us s = record {
  file = place;
  summary_id = s.id;
  stated_usages = s.usages;
  found_usages = int_sum_by (λ u. u.usages) (naming s.id us);
  stated_amount = s.amount;
  found_amount = int_sum_by (λ u. u.amount) (naming s.id us);
}

-- the stated usages or the stated amount are not those found
abbrev pub differs : Difference → Bool
differs d = not (int_eq d.stated_usages d.found_usages && int_eq d.stated_amount d.found_amount)

-- the differences of a file's summaries, in file order: none unless its standing is Ours and it ended whole
abbrev pub differences_in : Filed → List Difference
differences_in d = filter (λ x. is_ours d.standing && (ended_whole d.file.outcome && differs x))
    (map (difference d.place (usages_in d.file.blocks)) (summaries_of d.file.opening))

-- the differences of a report, by file and then in file order
unfoldable pub differences : List File → List Difference
differences files = flat_map differences_in (filed files)

abbrev pub has_number : ℕ → Option OpeningParts → Bool
has_number n None = false
has_number n (Some o) = n == o.head.file_number

-- a file with the standing Ours has this FileNumber
abbrev pub is_there : ℕ → List Filed → Bool
is_there n ds = list_any (λ d. is_ours d.standing && has_number n d.file.opening) ds

-- the missing file numbers: those from 1 to NumberOfFiles, inclusive, that no file with the standing Ours has
abbrev pub missing_for : Option Head → List Filed → List ℕ
missing_for None ds = []
missing_for (Some head) ds = filter (λ n. not (is_there n ds)) (range_with_len 1 head.number_of_files)

-- the rejected blocks of file `place`, with their positions, where the first block has position n
abbrev pub rejects_from : ℕ → ℕ → List (BlockParts × Verdict) → List Reject
rejects_from place n [] = []
rejects_from place n ((b, Booked) ∷ rest) = rejects_from place (n + 1) rest
rejects_from place n ((b, Rejected reason) ∷ rest) =
    record { file = place; position = n; block_id = b.id; reason = reason } ∷ rejects_from place (n + 1) rest

-- the rejected blocks of a file, in file order, with their positions among its blocks, from 1
abbrev pub rejects_in : Filed → List Reject
rejects_in d = rejects_from d.place 1 (judged_in d)

-- the rejected blocks of a report, by file and then in file order
unfoldable pub rejects : List File → List Reject
rejects files = flat_map rejects_in (filed files)
