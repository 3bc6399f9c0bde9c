-- The names of paid statements in lists.
use Rattle.std.specs.Prelude.{◌≡◌, ◌⊎◌, ◌==◌, ℕ, true, if◌then◌else◌, List, [], ◌∷◌, IsUtf8, Some}
use Rattle.std.specs.List.{Any, flat_map, list_any, slice_split}
use Rattle.dsr_command.specs.World.{Disk}
use Rattle.dsr_io.specs.meaning.Told.{Told}

-- the byte that ends each name of a list: zero if the list has one, and else a line feed
abbrev pub name_end : List ℕ → ℕ
name_end bytes = if list_any (λ b. b == 0) bytes then 0 else 10

-- pieces, without an empty last one: nothing follows the last end
abbrev pub without_empty_last : List (List ℕ) → List (List ℕ)
without_empty_last [] = []
without_empty_last ([] ∷ []) = []
without_empty_last ((b ∷ bs) ∷ []) = (b ∷ bs) ∷ []
without_empty_last (piece ∷ next ∷ more) = piece ∷ without_empty_last (next ∷ more)

-- the names that this byte ends; the last one may lack it
abbrev pub names_ended : ℕ → List ℕ → List (List ℕ)
names_ended end bytes = without_empty_last (slice_split (λ b. b == end) bytes)

-- the names in a list of these bytes, in order
abbrev pub names_in : List ℕ → List (List ℕ)
names_in bytes = names_ended (name_end bytes) bytes

-- the names of the statements in lists of these bytes, in order
abbrev pub names_listed : List (List ℕ) → List (List ℕ)
names_listed texts = flat_map names_in texts

-- one of the names in a list of these bytes is not UTF-8
abbrev pub HasBadName : List ℕ → Type 0
HasBadName bytes = Any (λ name. ¬ (IsUtf8 name)) (names_in bytes)

-- a list that is there cannot be read: a read of it failed, or it has a name that is not UTF-8
abbrev pub IsUnreadable : {R : Type 0} → (R → Told) → Disk → List ℕ → Type 0
IsUnreadable {R} told disk list =
    (bytes : List ℕ) × (disk.files list ≡ Some bytes) × (((source : R) × ((told source).failed ≡ true)) ⊎ HasBadName bytes)
