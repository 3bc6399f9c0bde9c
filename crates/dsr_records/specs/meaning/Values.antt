-- The record that a line spells, by a layout.
use Rattle.std.specs.Prelude.{ℕ, List, Option, Some, None, Result, Ok, Err, nat_lt, map, length, ℤ, pos, if◌then◌else◌}
use Rattle.dsr_events.specs.declared.kinds.Kind.{Kind}
use Rattle.dsr_events.specs.declared.kinds.Kind.TheVariants.{Head, Summary, Resource, Work, Usage, Foot, Skipped}
use Rattle.dsr_records.specs.declared.fault.RecordFault.{RecordFault}
use Rattle.dsr_events.specs.declared.record.Record.{Record}
use Rattle.std.specs.Option.{unwrap_or}
use Rattle.dsr_cells.specs.meaning.Cells.{cells, raw_parts, value_of}
use Rattle.dsr_cells.specs.meaning.Days.{CivilDay, day_of}
use Rattle.dsr_cells.specs.meaning.Numbers.{number_of, usages_of, amount_of, share_of}
use Rattle.dsr_records.specs.declared.fault.RecordFault.TheVariants.{Many, Unknown}
use Rattle.dsr_events.specs.declared.record.Head.{Head as HeadRecord}
use Rattle.dsr_events.specs.declared.record.Summary.{Summary as SummaryRecord}
use Rattle.dsr_events.specs.declared.record.Resource.{Resource as ResourceRecord}
use Rattle.dsr_events.specs.declared.record.Usage.{Usage as UsageRecord}
use Rattle.dsr_events.specs.declared.record.Foot.{Foot as FootRecord}
use Rattle.dsr_events.specs.meaning.Works.{WorkParts}
use Rattle.dsr_records.specs.meaning.Records.{LayoutTable, RoleLine, role_of, is_skipped, type_of, cells_at, fault_of}
use Rattle.dsr_records.specs.meaning.Tables.{file_number_of, text_of}
use Rattle.dsr_events.specs.declared.record.Record.TheVariants as of

-- the identifier of a record: that of a summary, or that of its block
abbrev pub id_of_record : Record → Option (List ℕ)
id_of_record (of.Summary r) = Some r.id
id_of_record (of.Resource r) = Some r.block_id
id_of_record (of.Work r) = Some r.block_id
id_of_record (of.Usage r) = Some r.block_id
id_of_record _ = None

-- the value of a cell; the default is never used in a line without a fault
abbrev pub number_or_zero : Option ℕ → ℕ
number_or_zero n = unwrap_or n 0

abbrev pub whole_or_zero : Option ℤ → ℤ
whole_or_zero n = unwrap_or n (pos 0)

abbrev pub day_or_first : Option CivilDay → CivilDay
day_or_first d = unwrap_or d (record { year = 1970; month = 1; day = 1 })

-- the values of a list cell
abbrev pub values_of : List ℕ → List (List ℕ)
values_of cell = map value_of (raw_parts cell)

abbrev pub share_or_zero : List ℕ → ℕ
share_or_zero part = number_or_zero (share_of part)

abbrev pub shares_of : List ℕ → List ℕ
shares_of cell = map share_or_zero (raw_parts cell)

-- the records, given the texts of their columns
abbrev pub head_of : (ℕ → List ℕ) → HeadRecord
head_of text = record {
  message_id = text 0;
  file_number = number_or_zero (file_number_of (text 1));
  number_of_files = number_or_zero (file_number_of (text 2));
  first_day = day_or_first (day_of (text 3));
  last_day = day_or_first (day_of (text 4));
  sender = text 5;
  recipient = text 6;
}

abbrev pub summary_of : (ℕ → List ℕ) → SummaryRecord
summary_of text = record {
  id = text 0;
  territory = text 1;
  use_type = text 2;
  currency = text 3;
  usages = whole_or_zero (usages_of (text 4));
  amount = whole_or_zero (amount_of (text 5));
}

abbrev pub resource_of : (ℕ → List ℕ) → ResourceRecord
resource_of text = record { block_id = text 0; isrc = text 1; titles = values_of (text 2); artists = values_of (text 3) }

abbrev pub work_of : (ℕ → List ℕ) → WorkParts
work_of text = record { block_id = text 0; work_id = text 1; title = text 2; parties = values_of (text 3); shares = shares_of (text 4) }

abbrev pub usage_of : (ℕ → List ℕ) → UsageRecord
usage_of text = record { block_id = text 0; summary_id = text 1; usages = whole_or_zero (usages_of (text 2)); amount = whole_or_zero (amount_of (text 3)) }

abbrev pub foot_of : (ℕ → List ℕ) → FootRecord
foot_of text =
    record { lines = number_or_zero (number_of (text 0)); summaries = number_or_zero (number_of (text 1)); blocks = number_or_zero (number_of (text 2)) }

abbrev pub record_by_kind : Kind → (ℕ → List ℕ) → Record
record_by_kind Head text = of.Head (head_of text)
record_by_kind Summary text = of.Summary (summary_of text)
record_by_kind Resource text = of.Resource (resource_of text)
record_by_kind Work text = of.Work (work_of text)
record_by_kind Usage text = of.Usage (usage_of text)
record_by_kind Foot text = of.Foot (foot_of text)
record_by_kind Skipped text = of.Skipped

abbrev pub unless_fault : Option RecordFault → Record → Result Record RecordFault
unless_fault None found = Ok found
unless_fault (Some fault) found = Err fault

-- the record of a kind whose columns have these cells, or the first fault
abbrev pub record_by_row : List (Option (List ℕ)) → Kind → Result Record RecordFault
record_by_row row kind = unless_fault (fault_of row kind) (record_by_kind kind (text_of row))

abbrev pub record_by_role : LayoutTable → List ℕ → Option RoleLine → Result Record RecordFault
record_by_role layout line (Some role) = record_by_row (cells_at line role.positions) role.kind
record_by_role layout line None = if is_skipped layout (type_of line) then Ok of.Skipped else Err Unknown

-- the record of a line by a layout, or its first fault
abbrev pub record_of : LayoutTable → List ℕ → Result Record RecordFault
record_of layout line = if nat_lt 64 (length (cells line)) then Err Many else record_by_role layout line (role_of layout (type_of line))
