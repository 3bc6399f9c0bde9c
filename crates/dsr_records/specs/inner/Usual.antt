-- Lines of the usual form, which are read quickly.
use Rattle.std.specs.Prelude.{◌≡◌, ◌≢◌, ◌<◌, ◌+◌, ◌-◌, ◌||◌, ◌==◌, not, ℕ, Bool, true, List, ◌++◌, ◌≤◌, Ok, IsUtf8, nat_le, length, map, take, slice_index}
use Rattle.std.specs.Int.{is_in_range}
use Rattle.std.specs.List.{list_all}
use Rattle.std.specs.Simd.Lanes.{chunk, mask_l}
use Rattle.dsr_cells.specs.meaning.Cells.{cells}
use Rattle.dsr_events.specs.declared.record.Record.{Record}
use Rattle.dsr_records.specs.meaning.Layouts.{standard_layout}
use Rattle.dsr_records.specs.meaning.Values.{record_of}

-- printable ASCII
abbrev pub is_printable : ℕ → Bool
is_printable b = is_in_range 32 126 b

-- printable ASCII or past ASCII
abbrev pub is_shown : ℕ → Bool
is_shown b = is_printable b || nat_le 128 b

-- no control character but a TAB
abbrev pub is_plain : ℕ → Bool
is_plain b = is_shown b || (b == 9)

-- bit k is set if byte k is not printable ASCII
abbrev pub odd_bits : List ℕ → ℕ
odd_bits bytes = mask_l (map (λ b. not (is_printable b)) bytes)

-- a page begins with a record type of four bytes and a TAB
pub record BeginsWithType (page name : List ℕ) : Type 0 where
  pub is : chunk 0 4 page ≡ name
  pub tab : slice_index page 4 ≡ 9
  pub printable : list_all is_printable name ≡ true
  pub begins : slice_index name 0 ≢ 35

-- these are the cells of a page up to an offset, at which the next one begins; up to there it is a text without control
-- characters but TABs, and it is not a comment
pub record IsFront (page seen : List ℕ) (at : ℕ) (front : List (List ℕ)) : Type 0 where
  pub same : seen ≡ page
  pub some : 0 < at
  pub begins : slice_index page 0 ≢ 35
  pub plain : list_all is_plain (take at page) ≡ true
  pub utf8 : IsUtf8 (take at page)
  pub cuts : (n : ℕ) → at ≤ n → n ≤ length page → cells (take n page) ≡ front ++ cells (chunk at (n - at) page)

-- a page begins with a line of this length, fewer than 128 bytes of a text without control characters but TABs, which is not
-- a comment
pub record BeginsWithLine (page : List ℕ) (size : ℕ) : Type 0 where
  pub some : 0 < size
  pub few : size < 128
  pub within : size < length page
  pub plain : list_all is_plain (take size page) ≡ true
  pub utf8 : IsUtf8 (take size page)
  pub begins : slice_index page 0 ≢ 35
  pub ends : slice_index page size ≡ 10

-- a page begins with a line of this length, which spells this record by the standard layout
pub record BeginsWithRecord (page : List ℕ) (size : ℕ) (item : Record) : Type 0 where
  pub line : BeginsWithLine page size
  pub spells : record_of standard_layout (take size page) ≡ Ok item

-- a page begins with a line of this length, which has these cells
pub record IsLineOf (page : List ℕ) (size : ℕ) (row : List (List ℕ)) : Type 0 where
  pub line : BeginsWithLine page size
  pub are : cells (take size page) ≡ row
