-- Lemmas on short texts.
use Rattle.dsr_texts.proofs.Common.{arith, ◌≡◌, ◌∙◌, ◌++◌, ◌&&◌, ◌≤◌, ◌-◌, refl, sym, ap, ℕ, List, length, take, drop, replicate, nat_eq, true, drop-replicate, drop-drop, take-append-drop, length-take, length-drop, take_all, AreBytes}
use Rattle.std.specs.Prelude.{IsUtf8}
use Rattle.std.specs.Bool.{one_answer}
use Rattle.std.specs.Int.{w64, from_le_bytes}
use Rattle.std.specs.Str.{bytes_eq}
use Rattle.std.specs.Cmp.{both_ways, first_so, second_so}
use Rattle.std.specs.Cmp.Derive.{both_true}
use Rattle.std.proofs.lemmas.Bool.Decides.{Decides-eqb}
use Rattle.std.proofs.lemmas.Nat.{le_bytes_8}
use Rattle.std.proofs.lemmas.Slice.Eq.{bytes_eq-Decides}
use Rattle.dsr_texts.specs.inner.Short.{HasZerosBehind}
use Rattle.dsr_texts.proofs.ByteLists.{small_front, small_back}

-- a text copied to the front of zeros has zeros after it
pub copied_zeros : (text given bytes : List ℕ) → given ≡ text → drop (length given) bytes ≡ drop (length given) (replicate 22 0)
    → HasZerosBehind (length text) bytes
copied_zeros text given bytes same rest = rw same at (rest ∙ drop-replicate (length given) 22 0)

-- and is UTF-8, as the text is
pub copied_utf8 : (text given bytes : List ℕ) → given ≡ text → take (length given) bytes ≡ given → ∥ IsUtf8 text ∥₁ → ∥ IsUtf8 (take (length text) bytes) ∥₁
copied_utf8 text given bytes same front utf8 =
    let is : take (length text) bytes ≡ text = rw same at front in
    rw is utf8

-- two texts of one length with zeros after them are equal exactly if all 22 bytes are
pub same_in_place : (size size' : ℕ) (xs ys : List ℕ) → size ≡ size' → HasZerosBehind size xs → HasZerosBehind size' ys
    → bytes_eq xs ys ≡ bytes_eq (take size xs) (take size' ys)
same_in_place size size' xs ys same zeros zeros' =
    let rest : drop size xs ≡ drop size' ys = zeros ∙ ap (λ n. replicate (22 - n) 0) same ∙ sym zeros' in
    let front = bytes_eq-Decides (take size xs) (take size' ys) in
    let whole = λ (h : bytes_eq (take size xs) (take size' ys) ≡ true).
    sym (take-append-drop size xs) ∙ ap (λ t. t ++ drop size xs) (front.0 h) ∙ ap (λ t. take size' ys ++ t) rest ∙ take-append-drop size' ys in
    one_answer _ _ (bytes_eq-Decides xs ys) (whole, λ e. front.1 (rw (e, same) refl))

-- the eight bytes from an offset, as a number
abbrev pub word_at : ℕ → List ℕ → ℕ
word_at i xs = from_le_bytes w64 (take 8 (drop i xs))

same_word : (i : ℕ) (xs ys : List ℕ) → i ≤ 14 → length xs ≡ 22 → length ys ≡ 22 → AreBytes xs → AreBytes ys → word_at i xs ≡ word_at i ys
    → take 8 (drop i xs) ≡ take 8 (drop i ys)
same_word i xs ys low l l' small small' e =
    let long : length (take 8 (drop i xs)) ≡ 8 = omega (arith, length-take 8 (drop i xs), length-drop i xs) in
    let long' : length (take 8 (drop i ys)) ≡ 8 = omega (arith, length-take 8 (drop i ys), length-drop i ys) in
    sym (le_bytes_8 (take 8 (drop i xs)) (word_at i xs) long (small_front 8 (drop i xs) (small_back i xs small)) refl)
    ∙ le_bytes_8 (take 8 (drop i ys)) (word_at i xs) long' (small_front 8 (drop i ys) (small_back i ys small')) e

-- 22 bytes consist of the words at 0, 8 and 14
in_words : (xs : List ℕ) → length xs ≡ 22 → xs ≡ take 8 (drop 0 xs) ++ (take 8 (drop 8 xs) ++ drop 2 (take 8 (drop 14 xs)))
in_words xs l =
    let tail : drop 2 (take 8 (drop 14 xs)) ≡ drop 16 xs = ap (drop 2) (take_all 8 (drop 14 xs) (omega (arith, length-drop 14 xs))) ∙ drop-drop 2 14 xs in
    let middle : take 8 (drop 8 xs) ++ drop 2 (take 8 (drop 14 xs)) ≡ drop 8 xs =
    ap (λ t. take 8 (drop 8 xs) ++ t) (tail ∙ sym (drop-drop 8 8 xs)) ∙ take-append-drop 8 (drop 8 xs) in
    sym (ap (λ t. take 8 xs ++ t) middle ∙ take-append-drop 8 xs)

-- 22 bytes are equal exactly if the words at 0, 8 and 14 are
pub same_words : (xs ys : List ℕ) → length xs ≡ 22 → length ys ≡ 22 → AreBytes xs → AreBytes ys
    → ((nat_eq (word_at 0 xs) (word_at 0 ys) && nat_eq (word_at 8 xs) (word_at 8 ys)) && nat_eq (word_at 14 xs) (word_at 14 ys)) ≡ bytes_eq xs ys
same_words xs ys l l' small small' =
    let p = nat_eq (word_at 0 xs) (word_at 0 ys) in
    let q = nat_eq (word_at 8 xs) (word_at 8 ys) in
    let r = nat_eq (word_at 14 xs) (word_at 14 ys) in
    let same =
    λ (i : ℕ) (low : i ≤ 14) (h : nat_eq (word_at i xs) (word_at i ys) ≡ true). same_word i xs ys low l l' small small'
    ((Decides-eqb (word_at i xs) (word_at i ys)).0 h) in
    let whole = λ (h : ((p && q) && r) ≡ true).
    in_words xs l
    ∙ ap (λ t. t ++ (take 8 (drop 8 xs) ++ drop 2 (take 8 (drop 14 xs)))) (same 0 (omega arith) (first_so p q (first_so (p && q) r h)))
    ∙ ap (λ t. take 8 ys ++ (t ++ drop 2 (take 8 (drop 14 xs)))) (same 8 (omega arith) (second_so p q (first_so (p && q) r h)))
    ∙ ap (λ t. take 8 ys ++ (take 8 (drop 8 ys) ++ drop 2 t)) (same 14 (omega arith) (second_so (p && q) r h))
    ∙ sym (in_words ys l') in
    let decides = bytes_eq-Decides xs ys in
    let equal = λ (i : ℕ) (e : xs ≡ ys). (Decides-eqb (word_at i xs) (word_at i ys)).1 (ap (word_at i) e) in
    both_ways _ _ (λ h. decides.1 (whole h)) (λ h. both_true (both_true (equal 0 (decides.0 h)) (equal 8 (decides.0 h))) (equal 14 (decides.0 h)))
