-- The array of a batch's slots, which is made in its memory.
use Rattle.std.specs.Prelude.{◌≡◌, ⊤, List, [], ◌∷◌, length}
use Rattle.arrayvec.specs.ArrayVec.{ArrayVec}
use Rattle.dsr_events.specs.meaning.Orderly.{Placed}

-- the events in the array, none if it is not made
abbrev pub events_in : List (ArrayVec Placed) → List Placed
events_in [] = []
events_in (array ∷ more) = array.items

-- an array that is made is full
abbrev pub IsFull : List (ArrayVec Placed) → Type 0
IsFull [] = ⊤
IsFull (array ∷ more) = length array.items ≡ 32
