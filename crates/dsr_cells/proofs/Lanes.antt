-- Lemmas on testing several bytes at a time.
use Rattle.dsr_cells.proofs.Common.{arith, ◌≡◌, ◌+◌, ◌∙◌, ◌&&◌, ℕ, Bool, List, [], ◌∷◌, map, take, drop, true, refl, sym, ap, ap₂, w8, Fits, take-append-drop, list_all, Each1, chunk, agree_below, agree_below_at, drop-take, take-take}
use Rattle.std.proofs.lemmas.List.Folds.{list_all-append}

-- two tests that agree on all bytes flag the same lanes
pub same_flags : (f g : ℕ → Bool) (run : List ℕ) → agree_below f g 256 ≡ true → Each1 (Fits w8) run → map f run ≡ map g run
same_flags f g [] agree fits = refl
same_flags f g (b ∷ bs) agree fits = ap₂ (λ m ms. m ∷ ms) (agree_below_at f g 256 b agree (fits.0).fits) (same_flags f g bs agree fits.1)

cut : (p : ℕ → Bool) (i : ℕ) (bytes : List ℕ) → list_all p bytes ≡ (list_all p (take i bytes) && list_all p (drop i bytes))
cut p i bytes = sym (ap (list_all p) (take-append-drop i bytes)) ∙ list_all-append p (take i bytes) (drop i bytes)

-- if they pass, and all bytes before them do, then all bytes up to their end pass
pub part_passes : (p : ℕ → Bool) (bytes : List ℕ) (at n : ℕ) → list_all p (take at bytes) ≡ true → list_all p (chunk at n bytes) ≡ true
    → list_all p (take (at + n) bytes) ≡ true
part_passes p bytes at n before more =
    cut p at (take (at + n) bytes)
    ∙ ap₂ (λ a b. list_all p a && list_all p b) (take-take at (at + n) bytes (omega arith)) (drop-take at n bytes)
    ∙ ap₂ (λ a b. a && b) before more
