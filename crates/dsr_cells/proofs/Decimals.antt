-- Lemmas on up to ten decimals, the first eight of which are read from one word.
use Rattle.dsr_cells.proofs.Common.{arith, ◌≡◌, ◌<◌, ◌≤◌, ◌+◌, ◌-◌, ◌*◌, ◌^◌, ◌∙◌, ℕ, List, [], ◌∷◌, ◌++◌, length, take, drop, get_or, true, cond, inl, inr, sym, ap, w8, Fits, drop-cons, ltb, min, refl, subst, mul_assoc, mul-lt-mul_of_pos_right, lit<, one-le-pow, min-eq_left, min-eq_right, is_ascii_digit, bit_xor, list_all, chunk, take-add, cases_lt, and_parts, lt-ltb, le-ltb, leb-true, drop-drop, list_all-append, pow-add, length-chunk, digits_sum, IsFilledUp}
use Rattle.dsr_cells.proofs.Numbers.{digits_sum-lt, is_digits_yes}
use Rattle.dsr_cells.proofs.Fours.{digit, digits_sum-append}

-- decimals in units of 10 ^ -places are fewer than 10 ^ places
pub filled_small : (places n : ℕ) (digits : List ℕ) → IsFilledUp places digits n → n < 10 ^ places
filled_small places n digits is =
    let tests = and_parts _ _ is.0 in
    let few : length digits ≤ places = leb-true _ _ (and_parts _ _ tests.1).1 in
    let small = digits_sum-lt digits (length digits) tests.0 (omega arith) in
    let whole : 10 ^ places ≡ 10 ^ length digits * 10 ^ (places - length digits) =
    ap (λ k. 10 ^ k) (back few) ∙ pow-add 10 (length digits) (places - length digits) in
    let less = mul-lt-mul_of_pos_right small (ten_pos (places - length digits)) in
    omega (arith, is.1, whole, less)
  where
    back : length digits ≤ places → places ≡ length digits + (places - length digits)
    back few = omega (arith, few)

    ten_pos : (k : ℕ) → 0 < 10 ^ k
    ten_pos k = one-le-pow k 10 (lit< tt)

-- one digit more
one_more : (page : List ℕ) (at k : ℕ) → at + k < length page → chunk at (k + 1) page ≡ chunk at k page ++ get_or page (at + k) 0 ∷ []
one_more page at k inside =
    take-add k 1 (drop at page) ∙ ap (λ t. chunk at k page ++ take 1 t) (drop-drop k at page ∙ drop-cons page (at + k) 0 inside)

digit_more : (ds : List ℕ) (b : ℕ) → list_all is_ascii_digit ds ≡ true → b < 256 → bit_xor b 48 < 10
    → (list_all is_ascii_digit (ds ++ b ∷ []) ≡ true) × (digits_sum (ds ++ b ∷ []) ≡ digits_sum ds * 10 + bit_xor b 48)
digit_more ds b all byte less =
    let one = digit b byte less in (
      list_all-append is_ascii_digit ds (b ∷ []) ∙ rw (all, one.0) refl,
      digits_sum-append ds (b ∷ []) ∙ omega (arith, one.1),
    )

module _ (page : List ℕ) (at size front ninth tenth : ℕ) (within : at + 10 ≤ length page) (fits : (k : ℕ) → Fits w8 (get_or page k 0)) (some : 0 < size)
    (few : size ≤ 10)
    (first : IsFilledUp 8 (chunk at (min size 8) page) front) (ninth_is : ninth ≡ cond (ltb 8 size) (bit_xor (get_or page (at + 8) 0) 48) 0)
    (tenth_is : tenth ≡ cond (ltb 9 size) (bit_xor (get_or page (at + 9) 0) 48) 0) (ninth_few : ninth ≤ 9) (tenth_few : tenth ≤ 9) where
  abbrev digits : List ℕ
  digits = chunk at size page

  abbrev eight : List ℕ
  eight = chunk at 8 page

  long : length digits ≡ size
  long = length-chunk at size page (omega (arith, within, few))

  units : list_all is_ascii_digit digits ≡ true → front * 100 + ninth * 10 + tenth ≡ digits_sum digits * 10 ^ (10 - size)
      → IsFilledUp 10 digits (front * 100 + ninth * 10 + tenth)
  units all sum = (is_digits_yes 10 digits all (omega (arith, long, some)) (omega (arith, long, few)), rw long sum)

  few_decimals : size ≤ 8 → IsFilledUp 10 digits (front * 100 + ninth * 10 + tenth)
  few_decimals low =
      let is = subst (λ m. IsFilledUp 8 (chunk at m page) front) (min-eq_left low) first in
      let no_ninth : ninth ≡ 0 = ninth_is ∙ ap (λ b. cond b (bit_xor (get_or page (at + 8) 0) 48) 0) (le-ltb 8 size low) in
      let no_tenth : tenth ≡ 0 = tenth_is ∙ ap (λ b. cond b (bit_xor (get_or page (at + 9) 0) 48) 0) (le-ltb 9 size (omega (arith, low))) in
      let front_is : front ≡ digits_sum digits * 10 ^ (8 - size) = rw long at is.1 in
      let split : (8 - size) + 2 ≡ 10 - size = omega (arith, low) in
      let scale : 10 ^ (10 - size) ≡ 10 ^ (8 - size) * 100 = ap (λ k. 10 ^ k) (sym split) ∙ pow-add 10 (8 - size) 2 in
      units (and_parts _ _ is.0).0 (omega (arith, front_is, no_ninth, no_tenth) ∙ product (digits_sum digits) (10 ^ (8 - size)) ∙ ap (λ k. digits_sum digits * k) (sym scale))
    where
      product : (s p : ℕ) → s * p * 100 ≡ s * (p * 100)
      product s p = mul_assoc s p 100

  eight_is : 8 < size → IsFilledUp 8 eight front
  eight_is high = subst (λ m. IsFilledUp 8 (chunk at m page) front) (min-eq_right (omega (arith, high))) first

  front_sum : 8 < size → front ≡ digits_sum eight
  front_sum high =
      let l : length eight ≡ 8 = length-chunk at 8 page (omega (arith, within)) in
      let is : front ≡ digits_sum eight * 10 ^ (8 - 8) = rw l at (eight_is high).1 in
      omega (arith, is)

  ninth_digit : 8 < size → ninth ≡ bit_xor (get_or page (at + 8) 0) 48
  ninth_digit high = ninth_is ∙ ap (λ b. cond b (bit_xor (get_or page (at + 8) 0) 48) 0) (lt-ltb 8 size high)

  nine : (high : 8 < size) → (list_all is_ascii_digit (chunk at 9 page) ≡ true) × (digits_sum (chunk at 9 page) ≡ front * 10 + ninth)
  nine high =
      let cut = one_more page at 8 (omega (arith, within)) in
      let more = digit_more eight (get_or page (at + 8) 0) (and_parts _ _ (eight_is high).0).0 (fits (at + 8)).fits
      (omega (arith, ninth_digit high, ninth_few)) in
      (ap (list_all is_ascii_digit) cut ∙ more.0, ap digits_sum cut ∙ more.1 ∙ omega (arith, front_sum high, ninth_digit high))

  times : (k : ℕ) → k ≡ 10 ^ (10 - size) → front * 100 + ninth * 10 + tenth ≡ digits_sum digits * k
      → front * 100 + ninth * 10 + tenth ≡ digits_sum digits * 10 ^ (10 - size)
  times k scale sum = sum ∙ ap (λ n. digits_sum digits * n) scale

  many_decimals : 8 < size → IsFilledUp 10 digits (front * 100 + ninth * 10 + tenth)
  many_decimals high = elim (cases_lt 9 size) [
    | inl ten ↦
        let all : size ≡ 10 = omega (arith, ten, few) in
        let tenth_digit : tenth ≡ bit_xor (get_or page (at + 9) 0) 48 =
        tenth_is ∙ ap (λ b. cond b (bit_xor (get_or page (at + 9) 0) 48) 0) (lt-ltb 9 size ten) in
        let cut : digits ≡ chunk at 9 page ++ get_or page (at + 9) 0 ∷ [] = ap (λ n. chunk at n page) all ∙ one_more page at 9 (omega (arith, within)) in
        let more = digit_more (chunk at 9 page) (get_or page (at + 9) 0) (nine high).0 (fits (at + 9)).fits (omega (arith, tenth_digit, tenth_few)) in
        let sum : digits_sum digits ≡ (front * 10 + ninth) * 10 + tenth =
        ap digits_sum cut ∙ more.1 ∙ omega (arith, (nine high).1, tenth_digit) in
        let scale : 1 ≡ 10 ^ (10 - size) = ap (λ n. 10 ^ (10 - n)) (sym all) in
        units (ap (list_all is_ascii_digit) cut ∙ more.0) (times 1 scale (omega (arith, sum)))
    | inr nine_only ↦
        let all : size ≡ 9 = omega (arith, nine_only, high) in
        let same : digits ≡ chunk at 9 page = ap (λ n. chunk at n page) all in
        let no_tenth : tenth ≡ 0 = tenth_is ∙ ap (λ b. cond b (bit_xor (get_or page (at + 9) 0) 48) 0) (le-ltb 9 size nine_only) in
        let sum : digits_sum digits ≡ front * 10 + ninth = ap digits_sum same ∙ (nine high).1 in
        let scale : 10 ≡ 10 ^ (10 - size) = ap (λ n. 10 ^ (10 - n)) (sym all) in
        units (ap (list_all is_ascii_digit) same ∙ (nine high).0) (times 10 scale (omega (arith, sum, no_tenth)))
  ]

  pub decimals_are : IsFilledUp 10 digits (front * 100 + ninth * 10 + tenth)
  decimals_are = elim (cases_lt 8 size) [ inl high ↦ many_decimals high | inr low ↦ few_decimals low ]
