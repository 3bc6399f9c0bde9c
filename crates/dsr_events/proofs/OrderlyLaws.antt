-- Laws of orderly lists.
use Rattle.std.proofs.Common.{◌≡◌, ℕ, zero, suc, Bool, true, false, true≢false, ◌||◌, ◌⊎◌, inl, inr, ⊎_elim, append_assoc, List, [], ◌∷◌, ◌++◌, length, Some, slice_get, refl, sym, ap, ◌∙◌, subst, arith, length-append}
use Rattle.std.proofs.lemmas.Option.{slice_get_within}
use Rattle.dsr_events.specs.meaning.Orderly.{Placed, is_ended, has_ended}
use Rattle.dsr_events.specs.layer.Orderly.{MayStandAt, IsOrderly}

pub slice_get_front : (xs ys : List Placed) (k : ℕ) (e : Placed) → slice_get xs k ≡ Some e → slice_get (xs ++ ys) k ≡ Some e
slice_get_front [] ys k e h = absurd (cc)
slice_get_front (x ∷ xs) ys zero e h = h
slice_get_front (x ∷ xs) ys (suc k) e h = slice_get_front xs ys k e h

pub slice_get_seam : (xs : List Placed) (e : Placed) (ys : List Placed) → slice_get (xs ++ e ∷ ys) (length xs) ≡ Some e
slice_get_seam [] e ys = refl
slice_get_seam (x ∷ xs) e ys = slice_get_seam xs e ys

pub orderly_nil : IsOrderly []
orderly_nil = record { places = λ i e at. absurd (cc); parts = λ i e at. absurd (cc); ended_last = λ i e at. absurd (cc) }

-- a prefix of an orderly list is orderly
pub orderly_front : (xs ys : List Placed) → IsOrderly (xs ++ ys) → IsOrderly xs
orderly_front xs ys h = record {
  places = λ i e at. h.places i e (slice_get_front xs ys i e at);
  parts = λ i e at. h.parts i e (slice_get_front xs ys i e at);
  ended_last = λ i e at end. omega (arith, length-append xs ys, slice_get_within xs i e at, h.ended_last i e (slice_get_front xs ys i e at) end);
}

-- the place of the next event of an orderly list is the number of events before it
pub orderly_next : (xs : List Placed) (e : Placed) (ys : List Placed) → IsOrderly (xs ++ e ∷ ys) → e.place ≡ length xs
orderly_next xs e ys h = h.places (length xs) e (slice_get_seam xs e ys)

empty : (zs : List Placed) → length zs ≡ 0 → zs ≡ []
empty [] z = refl
empty (z ∷ zs) s = absurd (omega arith)

-- nothing follows Ended
pub orderly_last : (xs : List Placed) (e : Placed) (ys : List Placed) → IsOrderly (xs ++ e ∷ ys) → is_ended e.part ≡ true → ys ≡ []
orderly_last xs e ys h end = empty ys (omega (arith, length-append xs (e ∷ ys), h.ended_last (length xs) e (slice_get_seam xs e ys) end))

empty_back : (xs ys : List Placed) → xs ++ ys ≡ [] → ys ≡ []
empty_back [] ys e = e
empty_back (x ∷ xs) ys e = absurd (cc)

ended_from : (front xs ys : List Placed) → IsOrderly (front ++ xs ++ ys) → has_ended xs ≡ true → ys ≡ []
ended_from front [] ys h end = absurd (cc)
ended_from front (x ∷ xs) ys h end = by_part (is_ended x.part) refl (ended_from (front ++ x ∷ []) xs ys)
  where
    here : IsOrderly (front ++ x ∷ (xs ++ ys))
    here = subst IsOrderly (append_assoc front (x ∷ xs) ys) h

    by_part : (b : Bool) → is_ended x.part ≡ b → (IsOrderly ((front ++ x ∷ []) ++ xs ++ ys) → has_ended xs ≡ true → ys ≡ []) → ys ≡ []
    by_part true is later = empty_back xs ys (orderly_last front x (xs ++ ys) here is)
    by_part false is later = later (subst IsOrderly (sym (append_assoc (front ++ x ∷ []) xs ys ∙ append_assoc front (x ∷ []) (xs ++ ys))) here) (rw is at end)

-- nothing follows a prefix that has Ended
pub ended_whole : (xs ys : List Placed) → IsOrderly (xs ++ ys) → has_ended xs ≡ true → ys ≡ []
ended_whole xs ys h end = ended_from [] xs ys h end

Some-injective : (e f : Placed) → Some e ≡ Some f → e ≡ f
Some-injective e f h = cc

pub slice_get_push : (xs : List Placed) (e f : Placed) (k : ℕ) → slice_get (xs ++ e ∷ []) k ≡ Some f → (slice_get xs k ≡ Some f) ⊎ ((k ≡ length xs) × (e ≡ f))
slice_get_push [] e f zero h = inr (refl, Some-injective e f h)
slice_get_push [] e f (suc k) h = absurd (cc)
slice_get_push (x ∷ xs) e f zero h = inl h
slice_get_push (x ∷ xs) e f (suc k) h = ⊎_elim inl (λ t. inr (ap suc t.0, t.1)) (slice_get_push xs e f k h)

no_ended : (xs : List Placed) (k : ℕ) (e : Placed) → has_ended xs ≡ false → slice_get xs k ≡ Some e → is_ended e.part ≡ false
no_ended [] k e none at = absurd (cc)
no_ended (x ∷ xs) zero e none at = subst (λ (f : Placed). is_ended f.part ≡ false) (Some-injective x e at) (first (is_ended x.part) (has_ended xs) none)
  where
    first : (a b : Bool) → (a || b) ≡ false → a ≡ false
    first true b h = absurd (cc)
    first false b h = refl
no_ended (x ∷ xs) (suc k) e none at = no_ended xs k e (second (is_ended x.part) (has_ended xs) none) at
  where
    second : (a b : Bool) → (a || b) ≡ false → b ≡ false
    second true b h = absurd (cc)
    second false b h = h

-- an orderly list without Ended stays orderly with one more event that has the next place and is allowed there
pub orderly_push : (xs : List Placed) (e : Placed) → IsOrderly xs → has_ended xs ≡ false → e.place ≡ length xs → MayStandAt (length xs) e.part
    → IsOrderly (xs ++ e ∷ [])
orderly_push xs e h none place part = record {
  places =
      λ k f at. ⊎_elim (h.places k f) (λ (t : (k ≡ length xs) × (e ≡ f)). ap (λ (g : Placed). g.place) (sym t.1) ∙ place ∙ sym t.0)
      (slice_get_push xs e f k at);
  parts =
      λ k f at. ⊎_elim (h.parts k f) (λ (t : (k ≡ length xs) × (e ≡ f)). subst (λ (p : ℕ × Placed). MayStandAt p.0 p.1.part) (λ i. (sym t.0 i, t.1 i)) part)
      (slice_get_push xs e f k at);
  ended_last = λ k f at end. ⊎_elim
      (λ (was : slice_get xs k ≡ Some f). absurd (true≢false (sym end ∙ no_ended xs k f none was)))
      (λ (t : (k ≡ length xs) × (e ≡ f)). omega (arith, t.0, length-append xs (e ∷ [])))
      (slice_get_push xs e f k at);
}
