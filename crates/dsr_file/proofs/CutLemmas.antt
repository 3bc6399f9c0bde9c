-- More bytes, and the pieces after them.
use Rattle.dsr_file.proofs.Common.{◌≡◌, ℕ, suc, ◌+◌, ◌<◌, ◌≤◌, ◌∙◌, sym, ap, refl, subst, Bool, true, false, cond, ◌||◌, eqb, List, [], ◌∷◌, ◌++◌, length, take, ◌-◌, append_assoc, arith, length-take, ◌==◌, slice_index, append-nil, take_more, eqb-true, common_steps, nat_tests, slice_split, onto_first, list_any, position_or_len, is_line_feed, without_mark, IsSettled, CutsTo, pieces}
use Rattle.std.proofs.lemmas.List.Sums.{passes_at_first}
use Rattle.std.proofs.lemmas.List.{nil_from_length}
use Rattle.dsr_file.proofs.PartLemmas.{join, join_onto, join_last}

pub split_some : (p : ℕ → Bool) (xs : List ℕ) → (q : List ℕ) × (qs : List (List ℕ)) × (slice_split p xs ≡ q ∷ qs)
split_some p [] = ([], [], refl)
split_some p (x ∷ xs) =
    let e = split_some p xs in
    elim (p x) as (λ b. (q : List ℕ) × (qs : List (List ℕ)) × (cond b ([] ∷ slice_split p xs) (onto_first x (slice_split p xs)) ≡ q ∷ qs))
    [ true ↦ ([], slice_split p xs, refl) | false ↦ (x ∷ e.0, e.1, ap (onto_first x) e.2) ]

pub split_join : (p : ℕ → Bool) (xs ys : List ℕ) → slice_split p (xs ++ ys) ≡ join (slice_split p xs) (slice_split p ys)
split_join p [] ys = let s = split_some p ys in rw s.2 refl
split_join p (x ∷ xs) ys =
    let s = split_some p xs in
    elim (p x) as (λ b. cond b ([] ∷ slice_split p (xs ++ ys)) (onto_first x (slice_split p (xs ++ ys)))
    ≡ join (cond b ([] ∷ slice_split p xs) (onto_first x (slice_split p xs))) (slice_split p ys)) [
      | true ↦ ap (λ z. [] ∷ z) (split_join p xs ys) ∙ rw s.2 refl
      | false ↦ ap (onto_first x) (split_join p xs ys) ∙ sym (join_onto x (slice_split p xs) (slice_split p ys))
    ]

split_none : (p : ℕ → Bool) (xs : List ℕ) → list_any p xs ≡ false → slice_split p xs ≡ xs ∷ []
split_none p [] n = refl
split_none p (x ∷ xs) n =
    elim (p x) as (λ b. (b || list_any p xs) ≡ false → cond b ([] ∷ slice_split p xs) (onto_first x (slice_split p xs)) ≡ (x ∷ xs) ∷ [])
    [ true ↦ λ e. cc | false ↦ λ e. ap (onto_first x) (split_none p xs e) ] n

-- after the place of the mark, by the pieces of the bytes that follow
cuts_more : (kept b ys : List ℕ) (ps qs : List (List ℕ)) (q : List ℕ) → CutsTo kept false b ps → slice_split is_line_feed ys ≡ q ∷ qs
    → (pieces (b ++ ys) ≡ ps ++ (kept ++ q) ∷ qs) × IsSettled (b ++ ys)
cuts_more kept b ys ps qs q k e = (
  ap (slice_split is_line_feed) (k.settled refl ys) ∙ split_join is_line_feed (without_mark b) ys ∙ rw (k.pieces_are, e) (join_last ps kept q qs),
  λ more. ap without_mark (append_assoc b ys more) ∙ k.settled refl (ys ++ more) ∙ sym (append_assoc (without_mark b) ys more)
      ∙ ap (λ xs. xs ++ more) (sym (k.settled refl ys)),
)

-- bytes without a line feed
pub more_bytes : (kept b ys : List ℕ) (ps : List (List ℕ)) → CutsTo kept false b ps → list_any is_line_feed ys ≡ false → CutsTo (kept ++ ys) false (b ++ ys) ps
more_bytes kept b ys ps k n = let c = cuts_more kept b ys ps [] ys k (split_none is_line_feed ys n) in
    record { pieces_are = c.0; settled = λ e. c.1; start = λ e. cc }

-- a line feed
line_feed : (kept b : List ℕ) (ps : List (List ℕ)) → CutsTo kept false b ps → CutsTo [] false (b ++ 10 ∷ []) (ps ++ kept ∷ [])
line_feed kept b ps k = let c = cuts_more kept b (10 ∷ []) ps ([] ∷ []) [] k refl in
    record { pieces_are = c.0 ∙ rw (append-nil kept) (sym (append_assoc ps (kept ∷ []) ([] ∷ []))); settled = λ e. c.1; start = λ e. cc }

-- the bytes before the first line feed, and that byte
pub none_before : (xs : List ℕ) (n : ℕ) → n ≡ position_or_len is_line_feed xs → list_any is_line_feed (take n xs) ≡ false
none_before xs n is = rw is (before_feed xs)
  where
    before_feed : (xs : List ℕ) → list_any is_line_feed (take (position_or_len is_line_feed xs) xs) ≡ false
    before_feed [] = refl
    before_feed (x ∷ xs) = elim (eqb x 10) as (λ b. eqb x 10 ≡ b → list_any is_line_feed (take (position_or_len is_line_feed (x ∷ xs)) (x ∷ xs)) ≡ false) [
      | true ↦ λ e. rw e refl
      | false ↦ λ e. let s : 1 + position_or_len is_line_feed xs ≡ suc (position_or_len is_line_feed xs) = omega arith in
          rw (e, s, e) (before_feed xs)
    ] refl

pub feed_there : (xs : List ℕ) (n : ℕ) → n ≡ position_or_len is_line_feed xs → n < length xs → slice_index xs n ≡ 10
feed_there xs n is short = rw is (eqb-true _ 10 (passes_at_first is_line_feed xs 0 (omega (arith, is, short))))

-- the bytes up to a line feed, and the line feed
pub fed_line : (kept b piece : List ℕ) (ps : List (List ℕ)) (n : ℕ) → CutsTo kept false b ps → list_any is_line_feed (take n piece) ≡ false → n < length piece
    → slice_index piece n ≡ 10 → CutsTo [] false (b ++ take (n + 1) piece) (ps ++ (kept ++ take n piece) ∷ [])
fed_line kept b piece ps n k none short found =
    let fed = line_feed _ _ ps (more_bytes kept b (take n piece) ps k none) in
    let one : take (n + 1) piece ≡ take n piece ++ 10 ∷ [] = take_more piece n 0 short ∙ ap (λ x. take n piece ++ x ∷ []) found in
    subst (λ x. CutsTo [] false x (ps ++ (kept ++ take n piece) ∷ [])) (append_assoc b (take n piece) (10 ∷ []) ∙ ap (λ x. b ++ x) (sym one)) fed

-- the line in the bytes used
pub here_line : (piece : List ℕ) (n : ℕ) → n < length piece → take (length (take (n + 1) piece) - 1) (take (n + 1) piece) ≡ take n piece
here_line piece n h = let e : length (take (n + 1) piece) - 1 ≡ n = simp length-take (omega arith) in rw e (grind (arith, common_steps))

pub within : (n m : ℕ) → n ≤ m → (n ≡ m → ⊥) → n < m
within n m h e = omega (arith, h, e)

pub empty_is : (r : Bool) (xs : List ℕ) → r ≡ (length xs == 0) → r ≡ true → xs ≡ []
empty_is r xs e t = let z : length xs ≡ 0 = grind (arith, nat_tests) in nil_from_length xs z
