-- The layout that the lines of a text spell, or the first faulty line and its fault.
use Rattle.std.specs.Prelude.{ℕ, suc, ◌&&◌, ◌||◌, ◌==◌, not, nat_lt, nat_le, Bool, if◌then◌else◌, List, [], ◌∷◌, ◌++◌, map, length, codes, Option, Some, None, Result, Ok, Err, slice_get, slice_index}
use Rattle.std.specs.Char.{is_ascii_alphanumeric}
use Rattle.std.specs.Int.{is_in_range}
use Rattle.std.specs.List.{list_any}
use Rattle.std.specs.Option.{unwrap_or, option_and_then}
use Rattle.std.specs.Str.{bytes_eq, is_utf8}
use Rattle.dsr_cells.specs.meaning.Cells.{cells}
use Rattle.dsr_cells.specs.meaning.Lines.{is_long, without_return, whole_lines}
use Rattle.dsr_cells.specs.meaning.Numbers.{number_of}
use Rattle.dsr_cells.specs.meaning.Texts.{is_text_of}
use Rattle.dsr_events.specs.declared.kinds.Column.{Column}
use Rattle.dsr_events.specs.declared.kinds.Kind.{Kind}
use Rattle.dsr_events.specs.declared.kinds.Kind.TheVariants.{Head, Summary, Resource, Work, Usage, Foot, Skipped}
use Rattle.dsr_records.specs.declared.fault.LayoutFault.{LayoutFault}
use Rattle.dsr_records.specs.declared.fault.LayoutFault.TheVariants.{Large, LongLine, NotUtf8, UnknownRole, BadType, RoleTwice, TypeTwice, BadPosition, ManySkips, MissingRole}
use Rattle.dsr_records.specs.declared.fault.LayoutError.{LayoutError}
use Rattle.dsr_records.specs.meaning.Records.{LayoutTable, RoleLine, is_skipped}
use Rattle.dsr_records.specs.meaning.Tables.{columns_of, may_be_empty}

-- the index of a kind
abbrev pub place_of : Kind → ℕ
place_of Head = 0
place_of Summary = 1
place_of Resource = 2
place_of Work = 3
place_of Usage = 4
place_of Foot = 5
place_of Skipped = 6

abbrev pub place_of_role : RoleLine → ℕ
place_of_role role = place_of role.kind

-- the kind that a role's name stands for; SKIP stands for record types that are skipped
abbrev pub kind_named : List ℕ → Option Kind
kind_named name =
    if bytes_eq name (codes "HEAD") then Some Head
    else (if bytes_eq name (codes "SY") then Some Summary
    else (if bytes_eq name (codes "AS") then Some Resource
    else (if bytes_eq name (codes "MW") then Some Work
    else (if bytes_eq name (codes "SU") then Some Usage
    else (if bytes_eq name (codes "FOOT") then Some Foot
    else (if bytes_eq name (codes "SKIP") then Some Skipped
    else None))))))

-- a record type: 1 to 16 letters, digits or dots
abbrev pub is_type_byte : ℕ → Bool
is_type_byte b = is_ascii_alphanumeric b || (b == 46)

abbrev pub is_type_text : List ℕ → Bool
is_type_text = is_text_of is_type_byte 16

-- a position: a number from 1 to 63, or a hyphen if the column may be empty
abbrev pub if_position : Option ℕ → Option (Option ℕ)
if_position None = None
if_position (Some n) = if is_in_range 1 63 n then Some (Some n) else None

abbrev pub position_of : Column → List ℕ → Option (Option ℕ)
position_of column cell = if bytes_eq cell (45 ∷ []) && may_be_empty column then Some None else if_position (number_of cell)

abbrev pub and_positions : Option (Option ℕ) → Option (List (Option ℕ)) → Option (List (Option ℕ))
and_positions (Some position) (Some positions) = Some (position ∷ positions)
and_positions _ _ = None

-- one position for each column, the first of which is in cell i of the line
abbrev pub positions_from : List ℕ → List Column → ℕ → Option (List (Option ℕ))
positions_from line [] i = Some []
positions_from line (column ∷ columns) i =
    and_positions (option_and_then (position_of column) (slice_get (cells line) i)) (positions_from line columns (suc i))

abbrev pub has_kind : LayoutTable → Kind → Bool
has_kind layout kind = list_any (λ role. place_of kind == place_of_role role) layout.roles

abbrev pub names_role : LayoutTable → List ℕ → Bool
names_role layout name = list_any (λ role. bytes_eq role.name name) layout.roles

abbrev pub has_type : LayoutTable → List ℕ → Bool
has_type layout name = names_role layout name || is_skipped layout name

abbrev pub with_role : LayoutTable → Kind → List ℕ → Option (List (Option ℕ)) → Result LayoutTable LayoutFault
with_role layout kind name None = Err BadPosition
with_role layout kind name (Some positions) =
    Ok (record { roles = layout.roles ++ (record { kind = kind; name = name; positions = positions } ∷ []); skipped = layout.skipped })

abbrev pub with_skipped : LayoutTable → List ℕ → Result LayoutTable LayoutFault
with_skipped layout name =
    if nat_le 64 (length layout.skipped) then Err ManySkips else Ok (record { roles = layout.roles; skipped = layout.skipped ++ (name ∷ []) })

-- the layout with one more line: its record type is in cell 1, and its positions begin in cell 2
abbrev pub with_line : LayoutTable → Kind → List ℕ → List ℕ → Result LayoutTable LayoutFault
with_line layout kind name line =
    if not (is_type_text name) then Err BadType
    else (if (nat_lt (place_of kind) 6) && has_kind layout kind then Err RoleTwice
    else (if has_type layout name then Err TypeTwice
    else (if nat_lt (place_of kind) 6 then with_role layout kind name (positions_from line (columns_of kind) 2) else with_skipped layout name)))

-- cell i of a layout line; a missing one reads as empty
abbrev pub cell_at : List ℕ → ℕ → List ℕ
cell_at line i = unwrap_or (slice_get (cells line) i) []

abbrev pub with_named : LayoutTable → Option Kind → List ℕ → Result LayoutTable LayoutFault
with_named layout None line = Err UnknownRole
with_named layout (Some kind) line = with_line layout kind (cell_at line 1) line

-- a line that is ignored: an empty one, or one that begins with #
abbrev pub is_left_out : List ℕ → Bool
is_left_out line = (length line == 0) || (slice_index line 0 == 35)

-- the layout after a line
abbrev pub with_text : LayoutTable → List ℕ → Result LayoutTable LayoutFault
with_text layout line =
    if is_left_out line then Ok layout
    else with_named layout (kind_named (cell_at line 0)) line

abbrev pub with_piece : LayoutTable → List ℕ → Result LayoutTable LayoutFault
with_piece layout piece =
    if is_long piece then Err LongLine
    else (if is_utf8 piece then with_text layout (without_return piece) else Err NotUtf8)

abbrev pub empty_layout : LayoutTable
empty_layout = record { roles = []; skipped = [] }

abbrev pub and_then_lines : (LayoutTable → Result LayoutTable LayoutError) → ℕ → Result LayoutTable LayoutFault → Result LayoutTable LayoutError
and_then_lines go_on line (Ok layout) = go_on layout
and_then_lines go_on line (Err fault) = Err (record { line = line; fault = fault })

-- the layout after the lines, the first of which has this number
abbrev pub with_lines : ℕ → List (List ℕ) → LayoutTable → Result LayoutTable LayoutError
with_lines line [] layout = if length layout.roles == 6 then Ok layout else Err (record { line = line; fault = MissingRole })
with_lines line (piece ∷ pieces) layout = and_then_lines (with_lines (suc line) pieces) line (with_piece layout piece)

-- the layout that a text spells, or its first fault
abbrev pub layout_of : List ℕ → Result LayoutTable LayoutError
layout_of bytes =
    if nat_lt 65536 (length bytes) then Err (record { line = 1; fault = Large })
    else with_lines 1 (whole_lines bytes) empty_layout

-- a line of the standard layout
abbrev pub role_line : Kind → List ℕ → List ℕ → RoleLine
role_line kind name positions = record { kind = kind; name = name; positions = map Some positions }

abbrev pub standard_layout : LayoutTable
standard_layout = record {
  roles =
      role_line Head (codes "HEAD") (1 ∷ 2 ∷ 3 ∷ 4 ∷ 5 ∷ 6 ∷ 7 ∷ []) ∷ role_line Summary (codes "SY01") (1 ∷ 2 ∷ 3 ∷ 4 ∷ 5 ∷ 6 ∷ [])
      ∷ role_line Resource (codes "AS01") (1 ∷ 2 ∷ 3 ∷ 4 ∷ []) ∷ role_line Work (codes "MW01") (1 ∷ 2 ∷ 3 ∷ 4 ∷ 5 ∷ [])
      ∷ role_line Usage (codes "SU01") (1 ∷ 2 ∷ 3 ∷ 4 ∷ []) ∷ role_line Foot (codes "FOOT") (1 ∷ 2 ∷ 3 ∷ []) ∷ [];
  skipped = [];
}
