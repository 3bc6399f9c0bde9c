-- The results of checking lines and of reading their cells, as contracts see them, and what the reading of a layout keeps.
use Rattle.std.specs.Prelude.{Result, Ok, Err, ◌≡◌, ℕ, List, length, if◌then◌else◌, Option, Some, None}
use Rattle.dsr_events.specs.declared.record.Record.{Record}
use Rattle.dsr_records.specs.declared.fault.RecordFault.{RecordFault}
use Rattle.dsr_records.specs.declared.checked.CheckedLine.{CheckedLine}
use Rattle.dsr_records.specs.declared.checked.CheckedLine.TheVariants.{Head, Summary, Resource, Work, Usage, Foot, Skipped}
use Rattle.std.specs.Borrow.{Bor}
use Rattle.std.specs.List.{list_all, slice_split}
use Rattle.dsr_cells.specs.meaning.Cells.{raw_parts}
use Rattle.dsr_events.specs.declared.kinds.Column.{Column}
use Rattle.dsr_records.specs.meaning.Records.{column_fault}
use Rattle.dsr_records.specs.meaning.Tables.{cell_of, is_share, text_of}
use Rattle.dsr_cells.specs.meaning.Lines.{is_line_feed, without_empty_last}
use Rattle.dsr_events.specs.declared.record.Record.TheVariants as records

-- the record whose texts are borrowed from the line
abbrev pub record_seen : CheckedLine → Record
record_seen (Head h) = records.Head h
record_seen (Summary s) = records.Summary s
record_seen (Resource r) = records.Resource r
record_seen (Work w) = records.Work w
record_seen (Usage u) = records.Usage u
record_seen (Foot f) = records.Foot f
record_seen Skipped = records.Skipped

-- the result of a check, with the record that is borrowed from the line
abbrev pub found_by : Result CheckedLine RecordFault → Result Record RecordFault
found_by (Ok line) = Ok (record_seen line)
found_by (Err fault) = Err fault

-- the fault of the column at index i
abbrev pub fault_at : List (Option (List ℕ)) → Column → ℕ → Option RecordFault
fault_at row column i = column_fault row column (cell_of row i)

-- the result is what the text of a column spells, or the fault of the column
abbrev pub ReadsValue : {V : Type 0} → (List ℕ → Option V) → List (Option (List ℕ)) → Column → ℕ → Result V RecordFault → Type 0
ReadsValue spelled row column i (Ok value) = (fault_at row column i ≡ None) × (spelled (text_of row i) ≡ Some value)
ReadsValue spelled row column i (Err fault) = fault_at row column i ≡ Some fault

-- the result is the text of a column, or the fault of the column
abbrev pub ReadsText : List (Option (List ℕ)) → Column → ℕ → Result (Bor (List ℕ)) RecordFault → Type 0
ReadsText row column i (Ok text) = (fault_at row column i ≡ None) × (text.now ≡ text_of row i)
ReadsText row column i (Err fault) = fault_at row column i ≡ Some fault

-- the number of shares in a list cell; None if a raw part is not a share
abbrev pub share_count : List ℕ → Option ℕ
share_count cell = if list_all is_share (raw_parts cell) then Some (length (raw_parts cell)) else None

-- the pieces of the remaining bytes
abbrev pub pieces_left : List ℕ → List (List ℕ)
pieces_left bytes = without_empty_last (slice_split is_line_feed bytes)
