-- The first cell of a line.
use Rattle.dsr_cells.proofs.Common.{arith, ◌≡◌, ◌+◌, ◌<◌, ◌≤◌, ℕ, suc, List, [], ◌∷◌, ◌++◌, length, get_or, take, drop, ap, sym, ◌∙◌, Some, None, true≢false, eqb, not, map, length-take, get_or-take, take-append-drop, nat_tests, drop-cons, prefix_len, chunk, mask_l, count_trailing_zeros, trailing_mask_l, leading_from_mask_l, length-chunk, run_in_chunk_fails, run_in_chunk_stops, IsFirstByte, is_byte, cells}
use Rattle.dsr_cells.proofs.Splits.{pieces_first, pieces_plain}

-- a text is what comes before a byte, the byte, and what follows
pub cut_at : (text : List ℕ) (place byte : ℕ) → place < length text → get_or text place 0 ≡ byte → text ≡ take place text ++ byte ∷ drop (place + 1) text
cut_at text place byte within is =
    let next_place : suc place ≡ place + 1 = omega arith in
    let next : drop place text ≡ get_or text place 0 ∷ drop (place + 1) text = drop-cons text place 0 within ∙ ap (λ n. get_or text place 0 ∷ drop n text) next_place in
    sym (take-append-drop place text) ∙ ap (λ l. take place text ++ l) (next ∙ ap (λ b. b ∷ drop (place + 1) text) is)

-- the first TAB ends the first cell
pub first_found : (text : List ℕ) (place : ℕ) → IsFirstByte (is_byte 9) text (Some place) → cells text ≡ take place text ∷ cells (drop (place + 1) text)
first_found text place found =
    let within : place < length text = found.0.high in
    let is : get_or text place 0 ≡ 9 = grind (arith, nat_tests, found.1) in
    pieces_first 9 text (take place text) (drop (place + 1) text) (cut_at text place 9 within is)
    (λ i low. grind (arith, nat_tests, length-take place text, get_or-take place text i 0, found.0.before i))

-- without a TAB there is one cell
pub none_found : (text : List ℕ) → IsFirstByte (is_byte 9) text None → cells text ≡ text ∷ []
none_found text none = pieces_plain 9 text (λ i low. grind (arith, nat_tests, none i))

-- the mask of 16 bytes gives the number of bytes before the first TAB
pub all_of_16 : (xs : List ℕ) (tabs : ℕ) → 16 ≤ length xs → tabs ≡ mask_l (map (λ b. eqb b 9) (chunk 0 16 xs)) → tabs ≡ 0
    → 16 ≡ prefix_len (λ b. not (eqb b 9)) (chunk 0 16 xs)
all_of_16 xs tabs room are none = sym (leading_from_mask_l (λ b. eqb b 9) (chunk 0 16 xs) (sym are ∙ none) ∙ length-chunk 0 16 xs room)

pub some_of_16 : (xs : List ℕ) (tabs : ℕ) → 16 ≤ length xs → tabs ≡ mask_l (map (λ b. eqb b 9) (chunk 0 16 xs)) → (tabs ≡ 0 → ⊥)
    → count_trailing_zeros 64 tabs ≡ prefix_len (λ b. not (eqb b 9)) (chunk 0 16 xs)
some_of_16 xs tabs room are some =
    ap (count_trailing_zeros 64) are
    ∙ trailing_mask_l (λ b. eqb b 9) 64 (chunk 0 16 xs) (omega (arith, length-chunk 0 16 xs room)) (omega (arith, are, some))

-- a run of fewer than 16 bytes ends with the first TAB
pub run_found : (xs : List ℕ) (run : ℕ) → 16 ≤ length xs → run ≡ prefix_len (λ b. not (eqb b 9)) (chunk 0 16 xs) → run < 16
    → IsFirstByte (is_byte 9) xs (Some run)
run_found xs run room counted short =
    let here : 0 + run ≡ run = omega arith in (
      record {
        low = omega arith;
        high = omega arith;
        before = λ k from less yes. true≢false (sym yes ∙ run_in_chunk_fails (λ b. eqb b 9) xs 0 16 run 0 room counted k from (omega (arith, less)));
      },
      ap (λ n. eqb (get_or xs n 0) 9) (sym here) ∙ run_in_chunk_stops (λ b. eqb b 9) xs 0 16 run 0 room counted short,
    )
