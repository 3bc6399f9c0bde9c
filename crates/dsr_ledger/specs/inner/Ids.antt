-- The set of the identifiers of a file's blocks.
use Rattle.std.specs.Prelude.{ℕ, ◌<◌, Bool, false, List, ◌||◌, ◌&&◌, Option, None, Some, nat_le, nat_lt, vec_len, vec_capacity}
use Rattle.std.specs.List.{list_any}
use Rattle.std.specs.Str.{bytes_eq}
use Rattle.indexmap.specs.IndexSet.{contains, spare}
use Rattle.dsr_ledger.specs.declared.file.ids.Ids.{Ids}
use Rattle.dsr_ledger.specs.inner.IdRanks.{number_of_id}

-- a number, if there is one, is one of those from the first up to the end
abbrev pub is_between : Ids → Option ℕ → Bool
is_between ids None = false
is_between ids (Some n) = nat_le ids.first n && nat_lt n ids.end

-- an identifier is in the set
abbrev pub is_in : Ids → List ℕ → Bool
is_in ids q = is_between ids (number_of_id q) || list_any (bytes_eq q) ids.run.items || contains bytes_eq ids.rest q

-- there is memory for one more identifier
abbrev pub HasRoom : Ids → Type 0
HasRoom ids = (vec_len ids.run < vec_capacity ids.run) × (0 < spare ids.rest)
