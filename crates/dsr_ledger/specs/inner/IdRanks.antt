-- The numbers and the ranks of identifiers.
use Rattle.std.specs.Prelude.{ℕ, ◌+◌, ◌-◌, ◌*◌, ◌^◌, ◌%◌, List, ◌&&◌, ◌==◌, length, drop, get_or, Option, None, Some, nat_lt, if◌then◌else◌}
use Rattle.std.specs.List.{fold}
use Rattle.dsr_cells.specs.meaning.Numbers.{number_of}

-- the number that an identifier is: without leading zeros
abbrev pub number_of_id : List ℕ → Option ℕ
number_of_id id = if nat_lt 1 (length id) && (get_or id 0 0 == 48) then None else number_of id

-- a number with one more byte appended, modulo 2^64
abbrev pub with_byte : ℕ → ℕ → ℕ
with_byte number byte = (number * 256 % 2 ^ 64 + byte) % 2 ^ 64

-- the rank of an identifier with this number: the number, or else the big-endian number of the last eight bytes
abbrev pub rank_by : Option ℕ → List ℕ → ℕ
rank_by (Some n) id = n
rank_by None id = fold with_byte 0 (drop (length id - 8) id)

unfoldable pub rank_of : List ℕ → ℕ
rank_of id = rank_by (number_of_id id) id
