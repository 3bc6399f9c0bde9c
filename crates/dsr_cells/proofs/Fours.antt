-- Lemmas on digits in the bytes of a word.
use Rattle.dsr_cells.proofs.Common.{arith, ◌≡◌, ◌<◌, ◌+◌, ◌-◌, ◌*◌, ◌^◌, ◌∙◌, ◌∷◌, [], ℕ, List, length, ◌++◌, length-append, mul_assoc, not, refl, true, sym, ap, eqb, ltb, ◌||◌, bit_and, bit_xor, is_ascii_digit, and_block, xor_block, pow-add, add-mul, agree_below_at, eqb-true, nat_tests, digits_sum, word_of_four}

-- an operation by bits on each byte of a word
pub xor_byte : (a k more mask : ℕ) → a < 256 → k < 256 → bit_xor (a + 256 * more) (k + 256 * mask) ≡ bit_xor a k + 256 * bit_xor more mask
xor_byte a k more mask h l =
    let x : a + 256 * more ≡ more * 2 ^ 8 + a = omega arith in
    let y : k + 256 * mask ≡ mask * 2 ^ 8 + k = omega arith in
    rw (x, y, xor_block 8 more mask a k h l) (omega arith)

and_byte : (a k more mask : ℕ) → a < 256 → k < 256 → bit_and (a + 256 * more) (k + 256 * mask) ≡ bit_and a k + 256 * bit_and more mask
and_byte a k more mask h l =
    let x : a + 256 * more ≡ more * 2 ^ 8 + a = omega arith in
    let y : k + 256 * mask ≡ mask * 2 ^ 8 + k = omega arith in
    rw (x, y, and_block 8 more mask a k h l) (omega arith)

pub and_four : (a b c d k l m n : ℕ) → a < 256 → b < 256 → c < 256 → k < 256 → l < 256 → m < 256
    → bit_and (word_of_four a b c d) (word_of_four k l m n) ≡ word_of_four (bit_and a k) (bit_and b l) (bit_and c m) (bit_and d n)
and_four a b c d k l m n A B C K L M =
    and_byte a k (b + 256 * (c + 256 * d)) (l + 256 * (m + 256 * n)) A K
    ∙ ap (λ x. bit_and a k + 256 * x) (and_byte b l (c + 256 * d) (m + 256 * n) B L ∙ ap (λ x. bit_and b l + 256 * x) (and_byte c m d n C M))

-- a byte without its high bit
low : (a : ℕ) → a < 256 → bit_and a 128 ≡ 0 → a < 128
low a h e =
    let same : eqb (bit_and a 128) 0 ≡ ltb a 128 = agree_below_at (λ b. eqb (bit_and b 128) 0) (λ b. ltb b 128) 256 a refl h in
    grind (arith, nat_tests, same, e)

pub low_four : (a b c d : ℕ) → a < 256 → b < 256 → c < 256 → d < 256 → bit_and (word_of_four a b c d) 0x8080_8080 ≡ 0
    → (a < 128) × (b < 128) × (c < 128) × (d < 128)
low_four a b c d A B C D e =
    let parts : word_of_four (bit_and a 128) (bit_and b 128) (bit_and c 128) (bit_and d 128) ≡ 0 =
    sym (and_four a b c d 128 128 128 128 A B C (omega arith) (omega arith) (omega arith)) ∙ e in
    (low a A (omega (arith, parts)), low b B (omega (arith, parts)), low c C (omega (arith, parts)), low d D (omega (arith, parts)))

-- bytes are below ten where neither they have a high bit, nor 118 more than they are
pub below_ten : (a b c d : ℕ) → a < 256 → b < 256 → c < 256 → d < 256 → bit_and (word_of_four a b c d) 0x8080_8080 ≡ 0
    → bit_and (word_of_four a b c d + 0x7676_7676) 0x8080_8080 ≡ 0 → (a < 10) × (b < 10) × (c < 10) × (d < 10)
below_ten a b c d A B C D e f =
    let small = low_four a b c d A B C D e in
    let more : word_of_four a b c d + 0x7676_7676 ≡ word_of_four (a + 118) (b + 118) (c + 118) (d + 118) = omega arith in
    let again = low_four (a + 118) (b + 118) (c + 118) (d + 118) (omega (arith, small.0)) (omega (arith, small.1)) (omega (arith, small.2)) (omega
    (arith, small.3)) (ap (λ x. bit_and x 0x8080_8080) (sym more) ∙ f) in
    (omega (arith, again.0), omega (arith, again.1), omega (arith, again.2), omega (arith, again.3))

-- a byte that differs from '0' in a number below ten is that digit
pub digit : (a : ℕ) → a < 256 → bit_xor a 48 < 10 → (is_ascii_digit a ≡ true) × (bit_xor a 48 ≡ a - 48)
digit a h less =
    let is : ltb (bit_xor a 48) 10 ≡ is_ascii_digit a = agree_below_at (λ b. ltb (bit_xor b 48) 10) is_ascii_digit 256 a refl h in
    let worth : (not (is_ascii_digit a) || eqb (bit_xor a 48) (a - 48)) ≡ true =
    agree_below_at (λ b. (not (is_ascii_digit b) || eqb (bit_xor b 48) (b - 48))) (λ b. true) 256 a refl h in
    let yes : is_ascii_digit a ≡ true = sym is ∙ grind (arith, nat_tests) in
    (yes, eqb-true _ _ (rw yes at worth))

pub digits_sum-append : (xs ys : List ℕ) → digits_sum (xs ++ ys) ≡ digits_sum xs * 10 ^ length ys + digits_sum ys
digits_sum-append [] ys = omega arith
digits_sum-append (d ∷ ds) ys =
    let more : 10 ^ length (ds ++ ys) ≡ 10 ^ length ds * 10 ^ length ys = ap (λ k. 10 ^ k) (length-append ds ys) ∙ pow-add 10 (length ds) (length ys) in
    let first : (d - 48) * 10 ^ length (ds ++ ys) ≡ (d - 48) * 10 ^ length ds * 10 ^ length ys = ap (λ k. (d - 48) * k) more
    ∙ sym (mul_assoc (d - 48) (10 ^ length ds) (10 ^ length ys)) in
    let both = add-mul ((d - 48) * 10 ^ length ds) (digits_sum ds) (10 ^ length ys) in
    omega (arith, first, both, digits_sum-append ds ys)
