-- An item that is lent from a list.
use Rattle.dsr_texts.proofs.Common.{◌≡◌, ℕ, List, Option, None, Some, Bor, option_map, slice_get, length, refl, sym}
use Rattle.std.specs.Slice.{IsItemAt}
use Rattle.std.proofs.lemmas.Option.{slice_get_past, slice_get_read}

pub lent_item : {X : Type 0} (xs : List X) (i : ℕ) (r : Option (Bor X)) → IsItemAt xs i r → option_map (λ x. x.now) r ≡ slice_get xs i
lent_item xs i None h = sym (slice_get_past xs i h.3)
lent_item xs i (Some x) h = sym (slice_get_read xs (length xs) i x.now refl h.3.0 h.1)
