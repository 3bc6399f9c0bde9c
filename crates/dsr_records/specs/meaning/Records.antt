-- Layouts, the cells of a line's columns, and their faults.
use Rattle.std.specs.Prelude.{ℕ, suc, ◌==◌, not, Bool, false, if◌then◌else◌, List, [], ◌∷◌, map, length, Option, Some, None, slice_get}
use Rattle.std.specs.List.{find, list_any}
use Rattle.std.specs.Option.{unwrap_or}
use Rattle.std.specs.Str.{bytes_eq}
use Rattle.dsr_cells.specs.meaning.Cells.{cells, raw_parts}
use Rattle.dsr_events.specs.declared.kinds.Column.{Column}
use Rattle.dsr_events.specs.declared.kinds.Kind.{Kind}
use Rattle.dsr_events.specs.declared.kinds.Kind.TheVariants.{Work}
use Rattle.dsr_records.specs.declared.fault.RecordFault.{RecordFault}
use Rattle.dsr_records.specs.declared.fault.RecordFault.TheVariants.{Missing, Bad, Uneven}
use Rattle.dsr_records.specs.meaning.Tables.{cell_of, text_of, columns_of, may_be_empty, is_spelled}

-- a line of a layout: a kind, the record type that stands for it, and the position of each of its columns, or none
pub record RoleLine : Type 0 where
  pub kind : Kind
  pub name : List ℕ
  pub positions : List (Option ℕ)

-- a layout: its lines for the kinds, and the record types that are skipped
pub record LayoutTable : Type 0 where
  pub roles : List RoleLine
  pub skipped : List (List ℕ)

-- the cell at a position: a column without a position reads as the empty cell
abbrev pub cell_in : List (List ℕ) → Option ℕ → Option (List ℕ)
cell_in line None = Some []
cell_in line (Some position) = slice_get line position

-- the cells of a line's columns, in the order of the columns: None for each that the line is too short for
abbrev pub cells_at : List ℕ → List (Option ℕ) → List (Option (List ℕ))
cells_at line positions = map (cell_in (cells line)) positions

-- the fault of a column, given its cell
abbrev pub column_fault : List (Option (List ℕ)) → Column → Option (List ℕ) → Option RecordFault
column_fault row column None = if may_be_empty column then None else Some (Missing column)
column_fault row column (Some text) = if is_spelled row column text then None else Some (Bad column)

abbrev pub or_else : {X : Type 0} → Option X → Option X → Option X
or_else None second = second
or_else (Some x) second = Some x

-- the first fault of the columns, the first of which has index i
abbrev pub first_fault : List (Option (List ℕ)) → List Column → ℕ → Option RecordFault
first_fault row [] i = None
first_fault row (column ∷ columns) i =
    or_else (column_fault row column (cell_of row i)) (first_fault row columns (suc i))

-- a work has different numbers of parties and shares
abbrev pub is_uneven : List (Option (List ℕ)) → Kind → Bool
is_uneven row Work = not (length (raw_parts (text_of row 3)) == length (raw_parts (text_of row 4)))
is_uneven row _ = false

-- the fault of a line whose columns have these cells: that of the first faulty column, then different numbers of
-- parties and shares
abbrev pub fault_of : List (Option (List ℕ)) → Kind → Option RecordFault
fault_of row kind = or_else (first_fault row (columns_of kind) 0) (if is_uneven row kind then Some Uneven else None)

-- the record type of a line: its first cell
abbrev pub type_of : List ℕ → List ℕ
type_of line = unwrap_or (slice_get (cells line) 0) []

abbrev pub role_of : LayoutTable → List ℕ → Option RoleLine
role_of layout name = find (λ role. bytes_eq role.name name) layout.roles

abbrev pub is_skipped : LayoutTable → List ℕ → Bool
is_skipped layout name = list_any (bytes_eq name) layout.skipped
