-- Taking one more event out of a batch.
use Rattle.dsr_relay.proofs.Common.{◌≡◌, ℕ, zero, suc, ◌+◌, ◌<◌, ◌≤◌, List, [], ◌∷◌, length, take, drop, set, slice_index_or, sym, ap, subst, arith, Placed}

-- the first event is taken out, and another one is put into its slot
first_out : (xs : List Placed) (out count : ℕ) (d e : Placed) → out < count → count ≤ length xs → e ≡ slice_index_or xs out e
    → drop out (take count xs) ≡ e ∷ drop (suc out) (take count (set xs out d))
first_out [] out count d e some few is = absurd (omega (arith, some, few))
first_out (x ∷ xs) out zero d e some few is = absurd (omega (arith, some))
first_out (x ∷ xs) zero (suc count) d e some few is = ap (λ y. y ∷ take count xs) (sym is)
first_out (x ∷ xs) (suc out) (suc count) d e some few is = first_out xs out count d e (omega (arith, some)) (omega (arith, few)) is

pub first_taken : (xs : List Placed) (out count : ℕ) (d e : Placed) → out < count → count ≤ length xs → e ≡ slice_index_or xs out e
    → drop out (take count xs) ≡ e ∷ drop (out + 1) (take count (set xs out d))
first_taken xs out count d e some few is =
    let one : suc out ≡ out + 1 = omega arith in
    subst (λ n. drop out (take count xs) ≡ e ∷ drop n (take count (set xs out d))) one (first_out xs out count d e some few is)
