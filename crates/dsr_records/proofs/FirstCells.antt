-- The first cells of a line.
use Rattle.dsr_records.proofs.Common.{slice_index_or, refl, ap, length-take, length-slice_split, ◌≡◌, ◌<◌, ◌+◌, ℕ, List, [], ◌∷◌, length, take, drop, get_or, arith, eqb, position_or_len, passes_at_first, eqb-true, slice_split_first, cells}

-- the first TAB is at index i
pub record TabAt (text : List ℕ) (i : ℕ) : Type 0 where
  pub within : i < length text
  pub tab : get_or text i 0 ≡ 9
  pub cut : cells text ≡ take i text ∷ cells (drop (i + 1) text)

-- if `position_or_len` is below the length, it is the index of the first TAB
pub first_tab : (text : List ℕ) → position_or_len (λ b. eqb b 9) text < length text → TabAt text (position_or_len (λ b. eqb b 9) text)
first_tab text some = record {
  within = some;
  tab = eqb-true _ _ (passes_at_first (λ b. eqb b 9) text 0 some);
  cut = slice_split_first (λ b. eqb b 9) text 0 some;
}

-- a line has a first cell
pub some_first : (line : List ℕ) (first : List (List ℕ)) → first ≡ take 10 (cells line) → 0 < length first
some_first line first are = omega (arith, ap length are, length-take 10 (cells line), length-slice_split (λ b. eqb b 9) line)

-- the first of a line's first cells is its first cell
pub first_of : (all first : List (List ℕ)) → first ≡ take 10 all → 0 < length first → all ≡ slice_index_or first 0 [] ∷ drop 1 all
first_of [] first are some = absurd (omega (arith, ap length are))
first_of (x ∷ xs) first are some = rw are refl
