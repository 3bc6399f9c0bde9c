-- What is put, cell by cell and line by line.
use Rattle.std.proofs.Common.{arith, ◌≡◌, ℕ, ◌+◌, ◌-◌, ◌<◌, ◌≤◌, List, [], ◌∷◌, ◌++◌, length, take, drop, get_or, ap, sym, subst, ◌∙◌, append-nil, length-append, length-drop, map, replicate}
use Rattle.std.specs.List.{flat_map, join_with_byte}
use Rattle.std.proofs.Math.Seq.{take-append_seam}
use Rattle.std.specs.Fmt.{decimal}
use Rattle.std.proofs.lemmas.Grind.{flat_map-append}
use Rattle.std.proofs.lemmas.List.{take-replicate, take_more}
use Rattle.std.proofs.lemmas.List.Concat.{flat_map-cons}
use Rattle.dsr_cells.specs.meaning.Written.{padded_number}
use Rattle.dsr_statement.specs.meaning.Cells.{Cell, cell_text}

-- the same bytes, in another form
pub turn : {A : Type 0} (took : A → List ℕ → A → Type 0) {a b : A} {x y : List ℕ} → took a x b → x ≡ y → took a y b
turn {A} took {a} {b} {x} {y} h e = subst (λ t. took a t b) e h

-- the text before the last byte of a room
pub before_last : (room text : List ℕ) (start last : ℕ) → length room ≡ 64 → start ≤ 63 → drop start room ≡ text ++ last ∷ []
    → take (63 - start) (drop start room) ≡ text
before_last room text start last long less e =
    let n : 63 - start ≡ length text = omega (arith, ap length e, length-append text (last ∷ []), length-drop start room) in
    ap (take (63 - start)) e ∙ ap (λ k. take k (text ++ last ∷ [])) n ∙ take-append_seam text (last ∷ [])

-- zeros before the digits of a number
pub padded : (zeros pad digits : List ℕ) (k n : ℕ) → zeros ≡ replicate (length zeros) 48 → digits ≡ decimal n → k ≡ length zeros - length digits
    → pad ≡ take k zeros → pad ++ digits ≡ padded_number (length zeros) n
padded zeros pad digits k n z d less p =
    let m = length zeros - length (decimal n) in
    let at : k ≡ m = less ∙ ap (λ t. length zeros - length t) d in
    let within : m ≤ length zeros = omega arith in
    let cut : take k zeros ≡ replicate m 48 =
    ap (λ i. take i zeros) at ∙ ap (take m) z ∙ take-replicate m (length zeros) 48 within in
    ap (λ t. t ++ digits) (p ∙ cut) ∙ ap (λ t. replicate m 48 ++ t) d

-- what the first items of a list give, and one more
pub flat_more : {X : Type 0} (f : X → List ℕ) (xs : List X) (i : ℕ) (x d : X) → i < length xs → x ≡ get_or xs i d
    → flat_map f (take i xs) ++ f x ≡ flat_map f (take (i + 1) xs)
flat_more f xs i x d less is =
    let first : take (i + 1) xs ≡ take i xs ++ x ∷ [] = take_more xs i d less ∙ ap (λ y. take i xs ++ y ∷ []) (sym is) in
    sym (ap (flat_map f) first ∙ flat_map-append f (take i xs) (x ∷ []) ∙ ap (λ l. flat_map f (take i xs) ++ l) (append-nil (f x)))

-- the texts of cells behind another, a TAB before each
pub joined_cells : (name : List ℕ) (cells : List Cell) → name ++ flat_map (λ c. 9 ∷ cell_text c) cells ≡ join_with_byte 9 (name ∷ map cell_text cells)
joined_cells name [] = append-nil name
joined_cells name (c ∷ cs) =
    ap (λ t. name ++ t) (flat_map-cons (λ x. 9 ∷ cell_text x) c cs ∙ ap (λ t. 9 ∷ t) (joined_cells (cell_text c) cs))
