-- Lemmas on eight digits in the bytes of a word.
use Rattle.dsr_cells.proofs.Common.{arith, ◌≡◌, ◌≤◌, ◌<◌, ◌+◌, ◌-◌, ◌*◌, ◌/◌, ◌%◌, ◌^◌, ◌∙◌, ◌∷◌, [], ℕ, List, length, refl, sym, ap, Bool, true, map, take, drop, replicate, ◌++◌, w8, w64, Fits, Option, Some, get_or, suc, zero, length-append, take-append-drop, subst, mul_comm, mul_assoc, zero-add, pow-suc, mul-lt-mul_of_pos_right, mod-eq_of_lt, add-mul, add-mul-mod_self_left, mul-div_cancel, bit_and, bit_xor, from_le_bytes, Each1, number_l, chunk, Each1-chunk, Each1-replicate, Each1-weaker, chunk-fits, length-chunk, IfSome, is_ascii_digit, list_all, xor_lt, pow-add, pow_pos, and_block, and_mask, length-take, length-replicate, length-map, take-map, take-take, list_all-append, and_parts, lt-ltb, le-leb, digits_sum, digits_of, IsWordOf, SpellsNumber, IsFilledUp, word_of_four, word_of_eight, number_of_eight}
use Rattle.std.proofs.lemmas.Option.{IfSome_then}
use Rattle.std.proofs.lemmas.List.{map-append}
use Rattle.dsr_cells.proofs.Fours.{xor_byte, digit, digits_sum-append, and_four, low_four, below_ten}

-- an operation by bits on each half of a word
and_halves : (lo hi m n : ℕ) → lo < 2 ^ 32 → m < 2 ^ 32 → bit_and (lo + 2 ^ 32 * hi) (m + 2 ^ 32 * n) ≡ bit_and lo m + 2 ^ 32 * bit_and hi n
and_halves lo hi m n h l =
    let x : lo + 2 ^ 32 * hi ≡ hi * 2 ^ 32 + lo = omega arith in
    let y : m + 2 ^ 32 * n ≡ n * 2 ^ 32 + m = omega arith in
    rw (x, y, and_block 32 hi n lo m h l) (omega arith)

-- bytes are below ten where neither they have a high bit, nor 118 more than they are
pub below_ten_8 : (a b c d e f g h : ℕ) → a < 256 → b < 256 → c < 256 → d < 256 → e < 256 → f < 256 → g < 256 → h < 256
    → bit_and (word_of_eight a b c d e f g h) 0x8080_8080_8080_8080 ≡ 0
    → bit_and ((word_of_eight a b c d e f g h + 0x7676_7676_7676_7676) % 2 ^ 64) 0x8080_8080_8080_8080 ≡ 0
    → ((a < 10) × (b < 10) × (c < 10) × (d < 10)) × ((e < 10) × (f < 10) × (g < 10) × (h < 10))
below_ten_8 a b c d e f g h A B C D E F G H x y =
    let lo = word_of_four a b c d in
    let hi = word_of_four e f g h in
    let fits : lo < 2 ^ 32 = omega arith in
    let parts : bit_and lo 0x8080_8080 + 2 ^ 32 * bit_and hi 0x8080_8080 ≡ 0 = sym (and_halves lo hi 0x8080_8080 0x8080_8080 fits (omega arith)) ∙ x in
    let lo_zero : bit_and lo 0x8080_8080 ≡ 0 = omega (arith, parts) in
    let hi_zero : bit_and hi 0x8080_8080 ≡ 0 = omega (arith, parts) in
    let l = low_four a b c d A B C D lo_zero in
    let u = low_four e f g h E F G H hi_zero in
    let more_fits : lo + 0x7676_7676 < 2 ^ 32 = omega (arith, l.0, l.1, l.2, l.3) in
    let whole : (lo + 2 ^ 32 * hi) + 0x7676_7676_7676_7676 ≡ (lo + 0x7676_7676) + 2 ^ 32 * (hi + 0x7676_7676) = omega arith in
    let small : (lo + 2 ^ 32 * hi) + 0x7676_7676_7676_7676 < 2 ^ 64 = omega (arith, l.0, l.1, l.2, l.3, u.0, u.1, u.2, u.3) in
    let again : bit_and (lo + 0x7676_7676) 0x8080_8080 + 2 ^ 32 * bit_and (hi + 0x7676_7676) 0x8080_8080 ≡ 0 =
    sym (and_halves (lo + 0x7676_7676) (hi + 0x7676_7676) 0x8080_8080 0x8080_8080 more_fits (omega arith))
    ∙ ap (λ w. bit_and w 0x8080_8080_8080_8080) (sym whole) ∙ ap (λ w. bit_and w 0x8080_8080_8080_8080) (sym (mod-eq_of_lt small)) ∙ y in
    (below_ten a b c d A B C D lo_zero (omega (arith, again)), below_ten e f g h E F G H hi_zero (omega (arith, again)))

-- the pairs of eight digits, and the fours of the pairs
pairs_are : (a b c d e f g h word : ℕ) → a < 10 → b < 10 → c < 10 → d < 10 → e < 10 → f < 10 → g < 10 → h < 10
    → word ≡ word_of_eight a b c d e f g h
    → bit_and ((word * 10 % 2 ^ 64 + word / 256) % 2 ^ 64) 0x00ff_00ff_00ff_00ff
    ≡ (10 * a + b) + 2 ^ 16 * (10 * c + d) + 2 ^ 32 * ((10 * e + f) + 2 ^ 16 * (10 * g + h))
pairs_are a b c d e f g h word A B C D E F G H is =
    let down : word / 256 ≡ word_of_eight b c d e f g h 0 = omega (arith, is) in
    let pairs : word * 10 + word / 256 ≡ word_of_four (10 * a + b) (10 * b + c) (10 * c + d) (10 * d + e)
    + 2 ^ 32 * word_of_four (10 * e + f) (10 * f + g) (10 * g + h) (10 * h) = omega (arith, down, is) in
    let lo : bit_and (word_of_four (10 * a + b) (10 * b + c) (10 * c + d) (10 * d + e)) 0x00ff_00ff ≡ (10 * a + b) + 2 ^ 16 * (10 * c + d) =
    masked (10 * a + b) (10 * b + c) (10 * c + d) (10 * d + e) (omega arith) (omega arith) (omega arith) (omega arith) in
    let hi : bit_and (word_of_four (10 * e + f) (10 * f + g) (10 * g + h) (10 * h)) 0x00ff_00ff ≡ (10 * e + f) + 2 ^ 16 * (10 * g + h) =
    masked (10 * e + f) (10 * f + g) (10 * g + h) (10 * h) (omega arith) (omega arith) (omega arith) (omega arith) in
    let tens : word * 10 % 2 ^ 64 ≡ word * 10 = mod-eq_of_lt (omega (arith, is)) in
    let all : (word * 10 + word / 256) % 2 ^ 64 ≡ word * 10 + word / 256 = mod-eq_of_lt (omega (arith, pairs)) in
    ap (λ w. bit_and ((w + word / 256) % 2 ^ 64) 0x00ff_00ff_00ff_00ff) tens
    ∙ ap (λ w. bit_and w 0x00ff_00ff_00ff_00ff) (all ∙ pairs)
    ∙ and_halves _ _ 0x00ff_00ff 0x00ff_00ff (omega arith) (omega arith)
    ∙ rw (lo, hi) refl
  where
    byte_kept : (n : ℕ) → n < 256 → bit_and n 255 ≡ n
    byte_kept n less = and_mask n 8 ∙ mod-eq_of_lt less

    byte_dropped : (n : ℕ) → bit_and n 0 ≡ 0
    byte_dropped n = and_mask n 0 ∙ omega arith

    masked : (p q r s : ℕ) → p < 256 → q < 256 → r < 256 → s < 256 → bit_and (word_of_four p q r s) 0x00ff_00ff ≡ p + 2 ^ 16 * r
    masked p q r s P Q R S =
        and_four p q r s 255 0 255 0 P Q R (omega arith) (omega arith) (omega arith)
        ∙ rw (byte_kept p P, byte_dropped q, byte_kept r R, byte_dropped s) (omega arith)

pub eight_is : (a b c d e f g h word : ℕ) → a < 10 → b < 10 → c < 10 → d < 10 → e < 10 → f < 10 → g < 10 → h < 10
    → word ≡ word_of_eight a b c d e f g h → (pairs fours : ℕ) → pairs ≡ bit_and ((word * 10 % 2 ^ 64 + word / 256) % 2 ^ 64) 0x00ff_00ff_00ff_00ff
    → fours ≡ bit_and (pairs * 100 + pairs / 65536) 0x0000_ffff_0000_ffff
    → bit_and fours 0xffff * 10000 + fours / 4294967296 ≡ number_of_eight a b c d e f g h
eight_is a b c d e f g h word A B C D E F G H is pairs fours ps fs =
    let p = 10 * a + b in
    let q = 10 * c + d in
    let r = 10 * e + f in
    let s = 10 * g + h in
    let there : pairs ≡ p + 2 ^ 16 * q + 2 ^ 32 * (r + 2 ^ 16 * s) = ps ∙ pairs_are a b c d e f g h word A B C D E F G H is in
    let down : pairs / 65536 ≡ q + 2 ^ 16 * (r + 2 ^ 16 * s) = omega (arith, there) in
    let sums : pairs * 100 + pairs / 65536 ≡ ((100 * p + q) + 2 ^ 16 * (100 * q + r)) + 2 ^ 32 * ((100 * r + s) + 2 ^ 16 * (100 * s)) =
    omega (arith, there, down) in
    let lo : bit_and ((100 * p + q) + 2 ^ 16 * (100 * q + r)) 0xffff ≡ 100 * p + q = and_mask _ 16 ∙ omega arith in
    let hi : bit_and ((100 * r + s) + 2 ^ 16 * (100 * s)) 0xffff ≡ 100 * r + s = and_mask _ 16 ∙ omega arith in
    let both : fours ≡ (100 * p + q) + 2 ^ 32 * (100 * r + s) =
    fs ∙ ap (λ w. bit_and w 0x0000_ffff_0000_ffff) sums ∙ and_halves _ _ 0xffff 0xffff (omega arith) (omega arith) ∙ rw (lo, hi) refl in
    let front : bit_and fours 0xffff ≡ 100 * p + q = and_mask fours 16 ∙ omega (arith, both) in
    let back : fours / 4294967296 ≡ 100 * r + s = omega (arith, both) in
    rw (front, back) (omega arith)

-- ---- bytes as a word

pub from_bytes : (bs : List ℕ) → length bs ≡ 8 → from_le_bytes w64 bs ≡ number_l 256 bs
from_bytes (a ∷ b ∷ c ∷ d ∷ e ∷ f ∷ g ∷ h ∷ []) long = omega arith
from_bytes [] long = absurd (omega (arith, long))
from_bytes (a ∷ []) long = absurd (omega (arith, long))
from_bytes (a ∷ b ∷ []) long = absurd (omega (arith, long))
from_bytes (a ∷ b ∷ c ∷ []) long = absurd (omega (arith, long))
from_bytes (a ∷ b ∷ c ∷ d ∷ []) long = absurd (omega (arith, long))
from_bytes (a ∷ b ∷ c ∷ d ∷ e ∷ []) long = absurd (omega (arith, long))
from_bytes (a ∷ b ∷ c ∷ d ∷ e ∷ f ∷ []) long = absurd (omega (arith, long))
from_bytes (a ∷ b ∷ c ∷ d ∷ e ∷ f ∷ g ∷ []) long = absurd (omega (arith, long))
from_bytes (a ∷ b ∷ c ∷ d ∷ e ∷ f ∷ g ∷ h ∷ i ∷ more) long = absurd (omega (arith, long))

abbrev with_zero : ℕ → ℕ
with_zero b = bit_xor b 48

abbrev IsByte : ℕ → Type 0
IsByte b = b < 256

xor_bytes : (bs : List ℕ) → Each1 IsByte bs → bit_xor (number_l 256 bs) (number_l 256 (replicate (length bs) 48)) ≡ number_l 256 (map with_zero bs)
xor_bytes [] all = refl
xor_bytes (b ∷ bs) all =
    xor_byte b 48 (number_l 256 bs) (number_l 256 (replicate (length bs) 48)) all.0 (omega arith)
    ∙ ap (λ n. bit_xor b 48 + 256 * n) (xor_bytes bs all.1)

pub xor_eight : (bs : List ℕ) → length bs ≡ 8 → Each1 IsByte bs → bit_xor (number_l 256 bs) 0x3030_3030_3030_3030 ≡ number_l 256 (map with_zero bs)
xor_eight bs long all = ap (λ n. bit_xor (number_l 256 bs) (number_l 256 (replicate n 48))) (sym long) ∙ xor_bytes bs all

power-suc : (n : ℕ) → 256 ^ suc n ≡ 256 * 256 ^ n
power-suc n = pow-suc 256 n ∙ mul_comm (256 ^ n) 256

number-append : (xs ys : List ℕ) → number_l 256 (xs ++ ys) ≡ number_l 256 xs + 256 ^ length xs * number_l 256 ys
number-append [] ys = omega arith
number-append (x ∷ xs) ys =
    let scale : 256 ^ suc (length xs) * number_l 256 ys ≡ 256 * (256 ^ length xs * number_l 256 ys) =
    ap (λ k. k * number_l 256 ys) (power-suc (length xs)) ∙ mul_assoc 256 (256 ^ length xs) (number_l 256 ys) in
    omega (arith, scale, number-append xs ys)

number-lt : (xs : List ℕ) → Each1 IsByte xs → number_l 256 xs < 256 ^ length xs
number-lt [] all = omega arith
number-lt (x ∷ xs) all = omega (arith, all.0, number-lt xs all.1, power-suc (length xs))

power-bits : (m : ℕ) → 256 ^ m ≡ 2 ^ (8 * m)
power-bits zero = refl
power-bits (suc m) =
    let more : 8 * suc m ≡ 8 * m + 8 = omega arith in
    let split : 2 ^ (8 * suc m) ≡ 2 ^ (8 * m) * 2 ^ 8 = ap (λ k. 2 ^ k) more ∙ pow-add 2 (8 * m) 8 in
    omega (arith, power-suc m, split, power-bits m)

-- ---- a word whose last bytes are shifted out

with_zero_bytes : (bs : List ℕ) → Each1 IsByte bs → Each1 IsByte (map with_zero bs)
with_zero_bytes [] all = tt
with_zero_bytes (b ∷ bs) all = (xor_lt 8 b 48 all.0 (omega arith), with_zero_bytes bs all.1)

module _ (ys : List ℕ) (long : length ys ≡ 8) (all : Each1 IsByte ys) (m : ℕ) (few : m ≤ 8) where
  abbrev kept_part : ℕ
  kept_part = number_l 256 (take m ys)

  abbrev lost_part : ℕ
  lost_part = number_l 256 (drop m ys)

  kept_length : length (take m ys) ≡ m
  kept_length = length-take m ys ∙ omega (arith, long, few)

  parts : number_l 256 ys ≡ kept_part + 256 ^ m * lost_part
  parts =
      ap (number_l 256) (sym (take-append-drop m ys)) ∙ number-append (take m ys) (drop m ys)
      ∙ ap (λ n. kept_part + 256 ^ n * lost_part) kept_length

  kept_small : kept_part < 256 ^ m
  kept_small = ap-lt kept_length (number-lt (take m ys) (each_take m ys all))
    where
      ap-lt : {n : ℕ} → n ≡ m → kept_part < 256 ^ n → kept_part < 256 ^ m
      ap-lt e h = subst (λ k. kept_part < 256 ^ k) e h

      each_take : (n : ℕ) (xs : List ℕ) → Each1 IsByte xs → Each1 IsByte (take n xs)
      each_take zero xs each = tt
      each_take (suc n) [] each = tt
      each_take (suc n) (x ∷ xs) each = (each.0, each_take n xs each.1)

  whole : 256 ^ m * 2 ^ (64 - 8 * m) ≡ 2 ^ 64
  whole =
      let back : 8 * m + (64 - 8 * m) ≡ 64 = omega (arith, few) in
      ap (λ k. k * 2 ^ (64 - 8 * m)) (power-bits m) ∙ sym (pow-add 2 (8 * m) (64 - 8 * m)) ∙ ap (λ k. 2 ^ k) back

  shifted : number_l 256 ys * 2 ^ (64 - 8 * m) % 2 ^ 64 ≡ kept_part * 2 ^ (64 - 8 * m)
  shifted =
      let k = 2 ^ (64 - 8 * m) in
      let lost : 256 ^ m * lost_part * k ≡ 2 ^ 64 * lost_part =
      ap (λ n. n * k) (mul_comm (256 ^ m) lost_part) ∙ mul_assoc lost_part (256 ^ m) k ∙ ap (λ n. lost_part * n) whole ∙ mul_comm lost_part (2 ^ 64) in
      let fits : kept_part * k < 2 ^ 64 = subst (λ n. kept_part * k < n) whole (mul-lt-mul_of_pos_right kept_small (pow_pos (64 - 8 * m))) in
      ap (λ n. n * k % 2 ^ 64) parts
      ∙ ap (λ n. n % 2 ^ 64) (add-mul kept_part (256 ^ m * lost_part) k ∙ ap (λ n. kept_part * k + n) lost)
      ∙ add-mul-mod_self_left (kept_part * k) (2 ^ 64) lost_part
      ∙ mod-eq_of_lt fits

  back_again : number_l 256 ys * 2 ^ (64 - 8 * m) % 2 ^ 64 / 2 ^ (64 - 8 * m) ≡ kept_part
  back_again = ap (λ n. n / 2 ^ (64 - 8 * m)) shifted ∙ mul-div_cancel kept_part (pow_pos (64 - 8 * m))

-- ---- eight bytes as digits

abbrev EightTest : ℕ → Bool → Type 0
EightTest word passes = (a b c d e f g h : ℕ) → a < 256 → b < 256 → c < 256 → d < 256 → e < 256 → f < 256 → g < 256 → h < 256
    → word ≡ word_of_eight a b c d e f g h → passes ≡ true
    → ((a < 10) × (b < 10) × (c < 10) × (d < 10)) × ((e < 10) × (f < 10) × (g < 10) × (h < 10))

abbrev EightNumber : ℕ → ℕ → Type 0
EightNumber word n = (a b c d e f g h : ℕ) → a < 10 → b < 10 → c < 10 → d < 10 → e < 10 → f < 10 → g < 10 → h < 10
    → word ≡ word_of_eight a b c d e f g h → n ≡ number_of_eight a b c d e f g h

module _ (word n : ℕ) (passes : Bool) where
  pub eight_digits : (bytes : List ℕ) → IsWordOf bytes word → EightTest word passes → passes ≡ true → EightNumber word n → SpellsNumber bytes n
  eight_digits (a ∷ b ∷ c ∷ d ∷ e ∷ f ∷ g ∷ h ∷ []) is test yes_ number =
      let all = is.1 in
      let x : (k : ℕ) → k < 256 → bit_xor k 48 < 256 = λ k less. xor_lt 8 k 48 less (omega arith) in
      let lanes : word ≡ word_of_eight (bit_xor a 48) (bit_xor b 48) (bit_xor c 48) (bit_xor d 48) (bit_xor e 48) (bit_xor f 48) (bit_xor g 48)
      (bit_xor h 48) = is.2 ∙ omega arith in
      let few = test _ _ _ _ _ _ _ _ (x a all.0) (x b all.1.0) (x c all.1.1.0) (x d all.1.1.1.0) (x e all.1.1.1.1.0) (x f all.1.1.1.1.1.0) (x g all.1.1.1.1.1.1.0) (x h all.1.1.1.1.1.1.1.0) lanes yes_ in
      let p = digit a all.0 few.0.0 in
      let q = digit b all.1.0 few.0.1 in
      let r = digit c all.1.1.0 few.0.2 in
      let s = digit d all.1.1.1.0 few.0.3 in
      let t = digit e all.1.1.1.1.0 few.1.0 in
      let u = digit f all.1.1.1.1.1.0 few.1.1 in
      let v = digit g all.1.1.1.1.1.1.0 few.1.2 in
      let w = digit h all.1.1.1.1.1.1.1.0 few.1.3 in (
        rw (p.0, q.0, r.0, s.0, t.0, u.0, v.0, w.0) refl,
        number _ _ _ _ _ _ _ _ few.0.0 few.0.1 few.0.2 few.0.3 few.1.0 few.1.1 few.1.2 few.1.3 lanes
            ∙ omega (arith, p.1, q.1, r.1, s.1, t.1, u.1, v.1, w.1),
      )
  eight_digits [] is test yes_ number = absurd (omega (arith, is.0))
  eight_digits (a ∷ []) is test yes_ number = absurd (omega (arith, is.0))
  eight_digits (a ∷ b ∷ []) is test yes_ number = absurd (omega (arith, is.0))
  eight_digits (a ∷ b ∷ c ∷ []) is test yes_ number = absurd (omega (arith, is.0))
  eight_digits (a ∷ b ∷ c ∷ d ∷ []) is test yes_ number = absurd (omega (arith, is.0))
  eight_digits (a ∷ b ∷ c ∷ d ∷ e ∷ []) is test yes_ number = absurd (omega (arith, is.0))
  eight_digits (a ∷ b ∷ c ∷ d ∷ e ∷ f ∷ []) is test yes_ number = absurd (omega (arith, is.0))
  eight_digits (a ∷ b ∷ c ∷ d ∷ e ∷ f ∷ g ∷ []) is test yes_ number = absurd (omega (arith, is.0))
  eight_digits (a ∷ b ∷ c ∷ d ∷ e ∷ f ∷ g ∷ h ∷ i ∷ more) is test yes_ number = absurd (omega (arith, is.0))

-- ---- fewer digits, with zeros before or behind them

abbrev zeros : ℕ → List ℕ
zeros n = replicate n 48

zeros_word : (n : ℕ) → number_l 256 (map with_zero (zeros n)) ≡ 0
zeros_word zero = refl
zeros_word (suc n) = omega (arith, zeros_word n)

zeros_sum : (n : ℕ) → digits_sum (zeros n) ≡ 0
zeros_sum zero = refl
zeros_sum (suc n) = omega (arith, zeros_sum n)

bytes_append : (xs ys : List ℕ) → Each1 IsByte xs → Each1 IsByte ys → Each1 IsByte (xs ++ ys)
bytes_append [] ys all more = more
bytes_append (x ∷ xs) ys all more = (all.0, bytes_append xs ys all.1 more)

digits_before : (n : ℕ) (ds : List ℕ) (k : ℕ) → SpellsNumber (zeros n ++ ds) k → SpellsNumber ds k
digits_before n ds k is = (
  (and_parts _ _ (sym (list_all-append is_ascii_digit (zeros n) ds) ∙ is.0)).1,
  is.1 ∙ digits_sum-append (zeros n) ds ∙ (let none = zeros_sum n in rw none (omega arith)),
)

digits_behind : (n : ℕ) (ds : List ℕ) (k : ℕ) → SpellsNumber (ds ++ zeros n) k → (list_all is_ascii_digit ds ≡ true) × (k ≡ digits_sum ds * 10 ^ n)
digits_behind n ds k is =
    let none = zeros_sum n in (
      (and_parts _ _ (sym (list_all-append is_ascii_digit ds (zeros n)) ∙ is.0)).0,
      is.1 ∙ digits_sum-append ds (zeros n) ∙ rw (none, length-replicate {A = ℕ} n 48) (omega arith),
    )

module _ (bs : List ℕ) (word : ℕ) (long : length bs ≡ 8) (all : Each1 IsByte bs) (is : word ≡ bit_xor (from_le_bytes w64 bs) 0x3030_3030_3030_3030)
    (m : ℕ) (few : m ≤ 8) where
  abbrev ys : List ℕ
  ys = map with_zero bs

  word_ys : word ≡ number_l 256 ys
  word_ys = is ∙ ap (λ w. bit_xor w 0x3030_3030_3030_3030) (from_bytes bs long) ∙ xor_eight bs long all

  ys_long : length ys ≡ 8
  ys_long = length-map bs with_zero ∙ long

  front_long : length (take m bs) ≡ m
  front_long = length-take m bs ∙ omega (arith, long, few)

  front_bytes : Each1 IsByte (take m bs)
  front_bytes = Each1-chunk IsByte 0 m bs all

  front_word : number_l 256 (take m ys) ≡ number_l 256 (map with_zero (take m bs))
  front_word = ap (number_l 256) (take-map with_zero m bs)

  pub shifted_left : IsWordOf (zeros (8 - m) ++ take m bs) (word * 2 ^ (64 - 8 * m) % 2 ^ 64)
  shifted_left = (
    length-append (zeros (8 - m)) (take m bs) ∙ (let l = length-replicate {A = ℕ} (8 - m) 48 in omega (arith, l, front_long, few)),
    bytes_append (zeros (8 - m)) (take m bs) (Each1-replicate IsByte (8 - m) 48 (omega arith)) front_bytes,
    ap (λ w. w * 2 ^ (64 - 8 * m) % 2 ^ 64) word_ys ∙ shifted ys ys_long (with_zero_bytes bs all) m few
        ∙ ap (λ n. n * 2 ^ (64 - 8 * m)) front_word ∙ sym spread,
  )
    where
      scale : 256 ^ (8 - m) ≡ 2 ^ (64 - 8 * m)
      scale =
          let same : 8 * (8 - m) ≡ 64 - 8 * m = omega arith in
          power-bits (8 - m) ∙ ap (λ k. 2 ^ k) same

      spread : number_l 256 (map with_zero (zeros (8 - m) ++ take m bs)) ≡ number_l 256 (map with_zero (take m bs)) * 2 ^ (64 - 8 * m)
      spread =
          let none = zeros_word (8 - m) in
          let size : length (map with_zero (zeros (8 - m))) ≡ 8 - m = length-map (zeros (8 - m)) with_zero ∙ length-replicate {A = ℕ} (8 - m) 48 in
          ap (number_l 256) (map-append with_zero (zeros (8 - m)) (take m bs))
          ∙ number-append (map with_zero (zeros (8 - m))) (map with_zero (take m bs))
          ∙ ap (λ k. number_l 256 (map with_zero (zeros (8 - m))) + 256 ^ k * number_l 256 (map with_zero (take m bs))) size
          ∙ ap (λ k. k + 256 ^ (8 - m) * number_l 256 (map with_zero (take m bs))) none
          ∙ zero-add (256 ^ (8 - m) * number_l 256 (map with_zero (take m bs)))
          ∙ ap (λ k. k * number_l 256 (map with_zero (take m bs))) scale
          ∙ mul_comm (2 ^ (64 - 8 * m)) (number_l 256 (map with_zero (take m bs)))

  pub shifted_right : IsWordOf (take m bs ++ zeros (8 - m)) (word * 2 ^ (64 - 8 * m) % 2 ^ 64 / 2 ^ (64 - 8 * m))
  shifted_right = (
    length-append (take m bs) (zeros (8 - m)) ∙ (let l = length-replicate {A = ℕ} (8 - m) 48 in omega (arith, l, front_long, few)),
    bytes_append (take m bs) (zeros (8 - m)) front_bytes (Each1-replicate IsByte (8 - m) 48 (omega arith)),
    ap (λ w. w * 2 ^ (64 - 8 * m) % 2 ^ 64 / 2 ^ (64 - 8 * m)) word_ys ∙ back_again ys ys_long (with_zero_bytes bs all) m few ∙ front_word ∙ sym spread,
  )
    where
      spread : number_l 256 (map with_zero (take m bs ++ zeros (8 - m))) ≡ number_l 256 (map with_zero (take m bs))
      spread =
          let none = zeros_word (8 - m) in
          ap (number_l 256) (map-append with_zero (take m bs) (zeros (8 - m)))
          ∙ number-append (map with_zero (take m bs)) (map with_zero (zeros (8 - m)))
          ∙ ap (λ k. number_l 256 (map with_zero (take m bs)) + 256 ^ length (map with_zero (take m bs)) * k) none
          ∙ omega arith

-- ---- the digits of a page

module _ (page : List ℕ) (at size : ℕ) (within : at + 8 ≤ length page) (fits : (k : ℕ) → Fits w8 (get_or page k 0)) (few : size ≤ 8) where
  abbrev eight : List ℕ
  eight = chunk at 8 page

  eight_long : length eight ≡ 8
  eight_long = length-chunk at 8 page within

  eight_bytes : Each1 IsByte eight
  eight_bytes = Each1-weaker (Fits w8) IsByte (λ b f. f.fits) eight (chunk-fits w8 at 8 page fits)

  front_is : take size eight ≡ chunk at size page
  front_is = take-take size 8 (drop at page) few

  pub before_is : (word : ℕ) → word ≡ bit_xor (from_le_bytes w64 eight) 0x3030_3030_3030_3030 → (r : Option ℕ)
      → ((bytes : List ℕ) → IsWordOf bytes (word * 2 ^ (64 - 8 * size) % 2 ^ 64) → IfSome r (SpellsNumber bytes))
      → 0 < size → IfSome r (λ n. digits_of 8 (chunk at size page) ≡ Some n)
  before_is word is r reads some =
      IfSome_then r (reads (zeros (8 - size) ++ take size eight) (shifted_left eight word eight_long eight_bytes is size few))
      (λ n spells. let there = digits_before (8 - size) (take size eight) n spells in
      let long : length (chunk at size page) ≡ size = length-chunk at size page (omega (arith, within, few)) in
      let digits : list_all is_ascii_digit (chunk at size page) ≡ true = rw front_is at there.0 in
      let sum : n ≡ digits_sum (chunk at size page) = rw front_is at there.1 in
      rw (digits, long, lt-ltb 0 size some, le-leb size 8 few, sum) refl)

  pub behind_is : (word : ℕ) → word ≡ bit_xor (from_le_bytes w64 eight) 0x3030_3030_3030_3030 → (r : Option ℕ)
      → ((bytes : List ℕ) → IsWordOf bytes (word * 2 ^ (64 - 8 * size) % 2 ^ 64 / 2 ^ (64 - 8 * size)) → IfSome r (SpellsNumber bytes))
      → 0 < size → IfSome r (IsFilledUp 8 (chunk at size page))
  behind_is word is r reads some =
      IfSome_then r (reads (take size eight ++ zeros (8 - size)) (shifted_right eight word eight_long eight_bytes is size few))
      (λ n spells. let there = digits_behind (8 - size) (take size eight) n spells in
      let long : length (chunk at size page) ≡ size = length-chunk at size page (omega (arith, within, few)) in
      let digits : list_all is_ascii_digit (chunk at size page) ≡ true = rw front_is at there.0 in
      let sum : n ≡ digits_sum (chunk at size page) * 10 ^ (8 - size) = rw front_is at there.1 in
      (rw (digits, long, lt-ltb 0 size some, le-leb size 8 few) refl, rw long sum))
