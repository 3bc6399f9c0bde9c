-- What a read of a source in memory gives, and what it leaves.
use Rattle.std.proofs.Common.{◌≡◌, ℕ, ◌+◌, ◌-◌, ◌<◌, ◌≤◌, List, [], ◌++◌, length, take, drop, min, sym, ap, ◌∙◌, arith, length-append, length-drop}
use Rattle.std.proofs.lemmas.List.{take-append-drop, drop-drop, drop_all, drop_min, length-take, take-append-le, take_all}

-- the bytes from a place on are those that are given, which are copied to the front of a piece, and those behind
pub consumed : (l rest given more : List ℕ) (at a n : ℕ) → a ≡ min at (length l) → rest ≡ drop a l → given ≡ take n rest → n ≤ length rest
    → drop at l ≡ take n (given ++ more) ++ drop (a + n) l
consumed l rest given more at a n is_at is_rest is_given fits =
    let size : length given ≡ n = ap length is_given ∙ length-take n rest ∙ omega arith in
    let front : take n (given ++ more) ≡ take n rest =
    take-append-le n given more (omega arith) ∙ take_all n given (omega arith) ∙ is_given in
    let whole : drop at l ≡ drop a l = sym (drop_min at l) ∙ ap (λ k. drop k l) (sym is_at) in
    let behind : drop n rest ≡ drop (a + n) l = ap (drop n) is_rest ∙ drop-drop n a l in
    whole ∙ sym is_rest ∙ sym (take-append-drop n rest) ∙ ap (λ r. r ++ drop n rest) (sym front) ∙ ap (λ r. take n (given ++ more) ++ r) behind

-- if none are given though there is room, none are left
pub at_the_end : (l rest given piece : List ℕ) (a n : ℕ) → rest ≡ drop a l → n ≡ min (min (length rest) (length piece)) 64 → length given ≡ n
    → n ≡ 0 → 0 < length (given ++ drop n piece) → drop (a + n) l ≡ []
at_the_end l rest given piece a n is_rest is_count size none room =
    let left : length rest ≡ length l - a = ap length is_rest ∙ length-drop a l in
    let whole : length (given ++ drop n piece) ≡ length given + (length piece - n) =
    length-append given (drop n piece) ∙ ap (λ k. length given + k) (length-drop n piece) in
    drop_all (a + n) l (omega arith)
