-- Lemmas on the first pipe or backslash of some bytes.
use Rattle.dsr_cells.proofs.Common.{arith, ◌≡◌, ◌<◌, ◌≤◌, ◌+◌, ℕ, Bool, List, [], ◌∷◌, length, map, get_or, true, false, not, refl, eqb, inl, inr, Some, None, bit_or, position, position_or_len, prefix_len, mask_l, cases_Bool, cases_lt, lt-ltb, le-ltb}
use Rattle.std.proofs.lemmas.List.Sums.{position_or_len_is}
use Rattle.dsr_cells.proofs.RawParts.{is_mark, PlainTo}

-- a byte that is a pipe once the bit of value 32 is set
abbrev pub is_pipe_with_bit : ℕ → Bool
is_pipe_with_bit b = eqb (bit_or b 32) 124

-- if a bit of a mask is set, not all lanes come before the first one that is set
pub some_lane : (p : ℕ → Bool) (run : List ℕ) → 0 < mask_l (map p run) → prefix_len (λ b. not (p b)) run < length run
some_lane p [] some = absurd (omega arith)
some_lane p (b ∷ bs) some = elim (cases_Bool (p b)) [
  | inl is ↦ rw is (omega arith)
  | inr other ↦ let less = rw other at some in rw other (omega (arith, some_lane p bs (omega (arith, less))))
]

pub found_mark : (text : List ℕ) (i : ℕ) → i < length text → PlainTo text i → is_mark (get_or text i 0) ≡ true → Some i ≡ position is_mark text
found_mark text i within plain mark =
    let there : position_or_len is_mark text ≡ i = position_or_len_is is_mark text i 0 (omega arith) plain (λ _. mark) in
    rw (there, lt-ltb i (length text) within) refl

pub no_mark : (text : List ℕ) → PlainTo text (length text) → None ≡ position is_mark text
no_mark text plain =
    let none : position_or_len is_mark text ≡ length text =
    position_or_len_is is_mark text (length text) 0 (omega arith) plain (λ less. absurd (omega arith)) in
    rw (none, le-ltb (length text) (length text) (omega arith)) refl

-- n more plain bytes, from a place that may be before the end of the plain ones
pub plain_over : (bytes : List ℕ) (at from n : ℕ) → from ≤ at → PlainTo bytes at
    → ((k : ℕ) → from ≤ k → k < from + n → is_mark (get_or bytes k 0) ≡ false) → PlainTo bytes (from + n)
plain_over bytes at from n over before more k less = elim (cases_lt k at) [
  | inl front ↦ before k front
  | inr back ↦ more k (omega arith) less
]
