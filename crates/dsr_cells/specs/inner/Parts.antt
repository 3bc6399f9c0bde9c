-- The state of an iterator over the raw parts of a list cell, and bytes as numbers that have the same order.
use Rattle.std.specs.Prelude.{ℕ, ◌+◌, ◌*◌, ◌^◌, List, [], ◌∷◌, length, Option, Some, None, ◌≡◌}
use Rattle.std.specs.Borrow.{Bor}
use Rattle.dsr_cells.specs.meaning.Cells.{parts_after}

-- the number whose base-256 digits are these, the most significant first
abbrev pub number_of_bytes : List ℕ → ℕ
number_of_bytes [] = 0
number_of_bytes (b ∷ bytes) = b * 256 ^ length bytes + number_of_bytes bytes

-- the parts that are left of a cell
abbrev pub parts_left : Option (Bor (List ℕ)) → List (List ℕ)
parts_left None = []
parts_left (Some rest) = parts_after 0 rest.now

-- a call of `next` takes the first part, or returns None if no part is left
abbrev pub GivesFirst : List (List ℕ) → Option (Bor (List ℕ)) → List (List ℕ) → Type 0
GivesFirst before None after = (before ≡ []) × (after ≡ [])
GivesFirst before (Some part) after = before ≡ part.now ∷ after
