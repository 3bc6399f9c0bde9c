-- The readings of lines, and the parts of a file that their records make.
use Rattle.std.specs.Prelude.{ℕ, Bool, true, false, List, [], ◌∷◌, ◌++◌, Result, Ok, Err, if◌then◌else◌, ◌+◌, ◌&&◌, nat_le, length, drop, map, Option, None, Some}
use Rattle.std.specs.Str.{is_utf8, bytes_eq}
use Rattle.dsr_cells.specs.meaning.Lines.{is_long, without_return}
use Rattle.dsr_events.specs.declared.record.Record.{Record}
use Rattle.dsr_events.specs.declared.record.Record.TheVariants.{Skipped, Head, Summary, Resource, Work, Usage, Foot}
use Rattle.dsr_records.specs.declared.fault.RecordFault.{RecordFault}
use Rattle.dsr_records.specs.meaning.Layouts.{is_left_out}
use Rattle.dsr_records.specs.meaning.Records.{LayoutTable}
use Rattle.dsr_records.specs.meaning.Values.{record_of}
use Rattle.dsr_events.specs.declared.fault.FileFault.{FileFault}
use Rattle.dsr_events.specs.declared.fault.FileFault.TheVariants.{LongLine, NotUtf8, ManyCells, UnknownRecord, MissingCell, BadCell, Uneven}
use Rattle.std.specs.List.{onto_first, filter_map, list_any, list_all}
use Rattle.std.specs.Option.{option_to_list, option_map}
use Rattle.dsr_events.specs.meaning.Blocks.{BlockParts}
use Rattle.dsr_events.specs.meaning.Works.{WorkParts}
use Rattle.dsr_events.specs.declared.event.EventPart.{EventPart}
use Rattle.dsr_events.specs.meaning.Openings.{OpeningParts}
use Rattle.dsr_records.specs.declared.fault.RecordFault.TheVariants as faults
use Rattle.dsr_events.specs.declared.record.Usage as usage
use Rattle.dsr_events.specs.declared.record.Summary as summary
use Rattle.dsr_events.specs.declared.event.EventPart.TheVariants as tell

-- a fault of the line itself, a skipped line, or a record
pub data Reading : Type 0 where
  Faulty : FileFault → Reading
  SkippedLine : Reading
  Holds : Record → Reading

abbrev pub file_fault : RecordFault → FileFault
file_fault faults.Many = ManyCells
file_fault faults.Unknown = UnknownRecord
file_fault (faults.Missing column) = MissingCell column
file_fault (faults.Bad column) = BadCell column
file_fault faults.Uneven = Uneven

abbrev pub of_record : Result Record RecordFault → Reading
of_record (Ok r) = Holds r
of_record (Err f) = Faulty (file_fault f)

-- what the text of a line is, if it is UTF-8
unfoldable pub of_utf8 : LayoutTable → List ℕ → Reading
of_utf8 layout text = if is_left_out text then SkippedLine else of_record (record_of layout text)

-- what the text of a line is, if it is not too long
unfoldable pub of_text : LayoutTable → List ℕ → Reading
of_text layout text = if is_utf8 text then of_utf8 layout text else Faulty NotUtf8

-- what a line is, by a layout
unfoldable pub reading : LayoutTable → List ℕ → Reading
reading layout line = if is_long line then Faulty LongLine else of_text layout (without_return line)

-- the record of a line, if there is one; a record of a skipped type does not count
abbrev pub kept : Reading → List Record
kept (Faulty f) = []
kept SkippedLine = []
kept (Holds Skipped) = []
kept (Holds r) = r ∷ []

-- the records of lines
abbrev pub records : List Reading → List Record
records [] = []
records (l ∷ ls) = kept l ++ records ls

abbrev pub is_skipped_line : Reading → Bool
is_skipped_line SkippedLine = true
is_skipped_line (Faulty f) = false
is_skipped_line (Holds r) = false

abbrev pub is_skipped_record : Reading → Bool
is_skipped_record (Holds Skipped) = true
is_skipped_record (Holds r) = false
is_skipped_record SkippedLine = false
is_skipped_record (Faulty f) = false

-- the maximum number of records in a block
abbrev pub block_limit : ℕ
block_limit = 64

-- a resource or FOOT
abbrev pub opens : Record → Bool
opens (Resource r) = true
opens (Foot f) = true
opens _ = false

-- the records, cut before each resource and before FOOT: the records before the first cut, and then the parts
abbrev pub parts : List Record → List (List Record)
parts [] = [] ∷ []
parts (r ∷ rs) = if opens r then [] ∷ onto_first r (parts rs) else onto_first r (parts rs)

-- all but the last
abbrev pub but_last : {X : Type 0} → List X → List X
but_last [] = []
but_last (x ∷ []) = []
but_last (x ∷ y ∷ ys) = x ∷ but_last (y ∷ ys)

abbrev pub last_of : {X : Type 0} → List X → Option X
last_of [] = None
last_of (x ∷ []) = Some x
last_of (x ∷ y ∷ ys) = last_of (y ∷ ys)

-- the parts that are followed by a resource or FOOT
abbrev pub closed : List Record → List (List Record)
closed rs = drop 1 (but_last (parts rs))

abbrev pub works : List Record → List WorkParts
works [] = []
works (Work w ∷ rs) = w ∷ works rs
works (_ ∷ rs) = works rs

abbrev pub usages : List Record → List usage.Usage
usages [] = []
usages (Usage u ∷ rs) = u ∷ usages rs
usages (_ ∷ rs) = usages rs

abbrev pub summaries : List Record → List summary.Summary
summaries [] = []
summaries (Summary s ∷ rs) = s ∷ summaries rs
summaries (_ ∷ rs) = summaries rs

abbrev pub is_usage : Record → Bool
is_usage (Usage u) = true
is_usage _ = false

-- works, and then at least one usage
abbrev pub works_then_usages : List Record → Bool
works_then_usages [] = false
works_then_usages (Work w ∷ rs) = works_then_usages rs
works_then_usages (Usage u ∷ rs) = list_all is_usage rs
works_then_usages (_ ∷ rs) = false

abbrev pub has_id : List ℕ → Record → Bool
has_id block_id (Resource r) = bytes_eq r.block_id block_id
has_id block_id (Work w) = bytes_eq w.block_id block_id
has_id block_id (Usage u) = bytes_eq u.block_id block_id
has_id block_id _ = false

-- a part as a block, if it is complete: one resource, works and then usages, all with its identifier
abbrev pub block_of : List Record → Option BlockParts
block_of (Resource r ∷ rs) =
    if works_then_usages rs && list_all (has_id r.block_id) rs && nat_le (length rs + 1) block_limit
    then Some (record { id = r.block_id; resource = r; works = works rs; usages = usages rs })
    else None
block_of _ = None

-- the head and the summaries
abbrev pub opening_of : List Record → Option OpeningParts
opening_of (Head h ∷ rs) = Some (record { head = h; summaries = summaries rs })
opening_of _ = None

-- the opening, if there is a resource or FOOT among the records
abbrev pub opened : List Record → List EventPart
opened rs = if list_any opens rs then option_to_list (option_map tell.Opened (opening_of rs)) else []

-- the events of the records: the opening, and a block for each closed part
unfoldable pub events_of : List Record → List EventPart
events_of rs = opened rs ++ map tell.Block (filter_map block_of (closed rs))
