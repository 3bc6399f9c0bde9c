-- The cells of a line, one after another.
use Rattle.dsr_cells.proofs.Common.{◌≡◌, ℕ, List, [], ◌∷◌, ◌++◌, length, ap, ◌∙◌, sym, map, append_assoc, take, ◌≤◌, arith, map-append, length-map, take_all, cells}
use Rattle.std.proofs.Math.Seq.{take-append_seam}

-- one more cell, and those after it
pub one_more : {X : Type 0} (f : X → List ℕ) (taken : List X) (x : X) (line rest after : List ℕ) → map f taken ++ cells rest ≡ cells line
    → cells rest ≡ f x ∷ cells after → map f (taken ++ x ∷ []) ++ cells after ≡ cells line
one_more f taken x line rest after so_far first =
    let all : map f (taken ++ x ∷ []) ≡ map f taken ++ f x ∷ [] = map-append f taken (x ∷ []) in
    ap (λ l. l ++ cells after) all ∙ append_assoc (map f taken) (f x ∷ []) (cells after) ∙ ap (λ l. map f taken ++ l) (sym first) ∙ so_far

-- the last cell
pub last_one : {X : Type 0} (f : X → List ℕ) (taken : List X) (x : X) (line rest : List ℕ) → map f taken ++ cells rest ≡ cells line
    → rest ≡ f x → cells rest ≡ rest ∷ [] → map f (taken ++ x ∷ []) ≡ cells line
last_one f taken x line rest so_far is only =
    map-append f taken (x ∷ []) ∙ ap (λ l. map f taken ++ l ∷ []) (sym is) ∙ ap (λ l. map f taken ++ l) (sym only) ∙ so_far

-- a list of at most ten cells is its first ten
pub all_of_ten : {X : Type 0} (f : X → List ℕ) (taken : List X) (all : List (List ℕ)) → map f taken ≡ all → length taken ≤ 10 → map f taken ≡ take 10 all
all_of_ten f taken all same few =
    let short : length (map f taken) ≤ 10 = omega (arith, length-map taken f, few) in
    sym (take_all 10 (map f taken) short) ∙ ap (take 10) same

-- ten cells are the first ten
pub first_ten : {X : Type 0} (f : X → List ℕ) (taken : List X) (more all : List (List ℕ)) → map f taken ++ more ≡ all → length taken ≡ 10
    → map f taken ≡ take 10 all
first_ten f taken more all cut ten =
    let long : length (map f taken) ≡ 10 = length-map taken f ∙ ten in
    sym (ap (λ n. take n (map f taken ++ more)) (sym long) ∙ take-append_seam (map f taken) more) ∙ ap (take 10) cut
