-- The faults of a line, given the lines before it.
use Rattle.std.specs.Prelude.{ℕ, ◌+◌, ◌==◌, nat_le, not, ◌||◌, Bool, List, [], ◌∷◌, ◌++◌, length, count_by, Option, None, Some, unwrap_or, if◌then◌else◌}
use Rattle.std.specs.List.{list_any}
use Rattle.std.specs.Str.{bytes_eq}
use Rattle.dsr_events.specs.declared.kinds.Kind.{Kind}
use Rattle.dsr_events.specs.declared.kinds.Kind.TheVariants as kinds
use Rattle.dsr_events.specs.declared.record.Record.{Record}
use Rattle.dsr_events.specs.declared.record.Record.TheVariants.{Head, Summary, Resource, Work, Usage, Foot, Skipped}
use Rattle.dsr_events.specs.declared.record.Summary as summary
use Rattle.dsr_records.specs.meaning.Values.{id_of_record}
use Rattle.dsr_records.specs.meaning.Records.{or_else}
use Rattle.dsr_events.specs.declared.fault.FileFault.{FileFault}
use Rattle.dsr_events.specs.declared.fault.FileFault.TheVariants as faults
use Rattle.dsr_file.specs.declared.stage.Before.{Before}
use Rattle.dsr_file.specs.declared.stage.Before.TheVariants.{Nothing, Front, Open, Used, Closed}
use Rattle.dsr_file.specs.meaning.Readings.{Reading, Faulty, SkippedLine, Holds, records, is_skipped_line, is_skipped_record, parts, closed, last_of, block_limit, summaries}

-- the maximum number of summaries in a file
abbrev pub summary_limit : ℕ
summary_limit = 1000

-- what the last record is: the column of the place table; `records` leaves skipped ones out, so the last case never occurs
abbrev pub column : Option Record → Before
column None = Nothing
column (Some (Head h)) = Front
column (Some (Summary s)) = Front
column (Some (Resource r)) = Open
column (Some (Work w)) = Open
column (Some (Usage u)) = Used
column (Some (Foot f)) = Closed
column (Some Skipped) = Nothing

-- the place table: the fault of a record that is not in its place
abbrev pub place : Before → Kind → Option FileFault
place Nothing kinds.Head = None
place Nothing kinds.Summary = Some faults.NoHead
place Nothing kinds.Resource = Some faults.NoHead
place Nothing kinds.Work = Some faults.NoHead
place Nothing kinds.Usage = Some faults.NoHead
place Nothing kinds.Foot = Some faults.NoHead
place Front kinds.Head = Some faults.SecondHead
place Front kinds.Summary = None
place Front kinds.Resource = None
place Front kinds.Work = Some faults.NoResource
place Front kinds.Usage = Some faults.NoResource
place Front kinds.Foot = None
place Open kinds.Head = Some faults.SecondHead
place Open kinds.Summary = Some faults.LateSummary
place Open kinds.Resource = Some faults.NoUsage
place Open kinds.Work = None
place Open kinds.Usage = None
place Open kinds.Foot = Some faults.NoUsage
place Used kinds.Head = Some faults.SecondHead
place Used kinds.Summary = Some faults.LateSummary
place Used kinds.Resource = None
place Used kinds.Work = Some faults.LateWork
place Used kinds.Usage = None
place Used kinds.Foot = None
place Closed kinds.Head = Some faults.AfterFoot
place Closed kinds.Summary = Some faults.AfterFoot
place Closed kinds.Resource = Some faults.AfterFoot
place Closed kinds.Work = Some faults.AfterFoot
place Closed kinds.Usage = Some faults.AfterFoot
place Closed kinds.Foot = Some faults.AfterFoot
place before kinds.Skipped = None

abbrev pub fault_if : Bool → FileFault → Option FileFault
fault_if b f = if b then Some f else None

-- the records of the last part, and its identifier
abbrev pub last_part : List Record → List Record
last_part rs = unwrap_or (last_of (parts rs)) []

abbrev pub first_id : List Record → List ℕ
first_id [] = []
first_id (r ∷ rs) = unwrap_or (id_of_record r) []

-- the fault of a work or a usage with this identifier, in a part with that identifier and number of records
abbrev pub member_fault : List ℕ → ℕ → List ℕ → Option FileFault
member_fault part_id count block_id =
    or_else (fault_if (not (bytes_eq block_id part_id)) faults.BlockNumber)
    (fault_if (nat_le block_limit count) faults.LongBlock)

-- the fault of a summary with this identifier, after these summaries
abbrev pub summary_fault : List summary.Summary → List ℕ → Option FileFault
summary_fault ss summary_id =
    or_else (fault_if (list_any (λ s. bytes_eq s.id summary_id) ss) faults.SummaryTwice)
    (fault_if (nat_le summary_limit (length ss)) faults.ManySummaries)

abbrev pub in_part : List Record → List ℕ → Option FileFault
in_part part block_id = member_fault (first_id part) (length part) block_id

-- the faults that are tested before anything is allocated, given the records before
abbrev pub early_fault : List Record → Record → Option FileFault
early_fault rs (Head h) = place (column (last_of rs)) kinds.Head
early_fault rs (Summary s) = or_else (place (column (last_of rs)) kinds.Summary) (summary_fault (summaries rs) s.id)
early_fault rs (Resource r) = place (column (last_of rs)) kinds.Resource
early_fault rs (Work w) = or_else (place (column (last_of rs)) kinds.Work) (in_part (last_part rs) w.block_id)
early_fault rs (Usage u) = or_else (place (column (last_of rs)) kinds.Usage) (in_part (last_part rs) u.block_id)
early_fault rs (Foot f) = place (column (last_of rs)) kinds.Foot
early_fault rs Skipped = None

-- the fault of FOOT's counts, in a file with these records before it and these numbers of skipped records and lines
abbrev pub count_fault : List Record → ℕ → ℕ → Record → Option FileFault
count_fault rs skipped_records skipped_lines (Foot f) =
    let all = length rs + 1 + skipped_records in
    or_else (fault_if (not ((f.lines == all) || (f.lines == (all + skipped_lines)))) faults.FootLines)
    (or_else (fault_if (not (f.summaries == length (summaries rs))) faults.FootSummaries)
    (fault_if (not (f.blocks == length (closed (rs ++ Foot f ∷ [])))) faults.FootBlocks))
count_fault rs skipped_records skipped_lines _ = None

-- the fault of a line, given the lines before it; None if the line is good
unfoldable pub fault_of : List Reading → Reading → Option FileFault
fault_of before (Faulty f) = Some f
fault_of before SkippedLine = None
fault_of before (Holds r) =
    or_else (early_fault (records before) r)
    (count_fault (records before) (count_by is_skipped_record before) (count_by is_skipped_line before) r)
