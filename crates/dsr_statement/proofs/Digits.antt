-- Texts of digits are those of their numbers.
use Rattle.std.proofs.Common.{arith, lit<, ◌≡◌, ◌≢◌, ◌<◌, ◌≤◌, ◌+◌, ◌-◌, ◌*◌, ◌/◌, ◌%◌, ◌^◌, ℕ, zero, suc, List, [], ◌∷◌, ◌++◌, length, get_or, true, false, refl, ap, sym, ◌∙◌, replicate, length-append, inl, inr, Some, None, cond, eqb, nat_lt, nat_le, ◌&&◌}
use Rattle.std.specs.Char.{is_ascii_digit}
use Rattle.std.specs.List.{list_all}
use Rattle.std.specs.Fmt.{decimal}
use Rattle.std.proofs.lemmas.Nat.{div-mul-add, mod-mul-add}
use Rattle.std.proofs.lemmas.Bool.{and_parts, cases_lt, eq-eqb, ne_eqb, lt-ltb, cases_Bool}
use Rattle.std.proofs.lemmas.Bool.Decides.{nat_tests}
use Rattle.std.proofs.lemmas.Fmt.{length-decimal-le_wide, decimal_is_IsNumeral_wide, decimal_by_steps_wide, decimal_digit}
use Rattle.std.proofs.lemmas.List.{length-replicate, get_or_append_left}
use Rattle.std.proofs.Math.Nat.{pow-le-pow_right}
use Rattle.dsr_cells.specs.meaning.Numbers.{digits_sum, is_digits}
use Rattle.dsr_cells.specs.meaning.Written.{padded_number}
use Rattle.dsr_cells.proofs.Numbers.{digits_sum-lt, is_digits_yes}
use Rattle.dsr_cells.proofs.Spelled.{all_digits, zeros_digits, zeros_spelled, spelled}
use Rattle.dsr_statement.specs.inner.Numbers.{has_leading_zero, number_in}

-- a digit and a rest below the power are one number in one way
digit_same : (a b r s w : ℕ) → r < w → s < w → a * w + r ≡ b * w + s → a ≡ b
digit_same a b r s w rw_ sw e = sym (div-mul-add a w r rw_) ∙ ap (λ n. n / w) e ∙ div-mul-add b w s sw

rest_same : (a b r s w : ℕ) → r < w → s < w → a * w + r ≡ b * w + s → r ≡ s
rest_same a b r s w rw_ sw e = sym (mod-mul-add a w r rw_) ∙ ap (λ n. n % w) e ∙ mod-mul-add b w s sw

digit_bounds : (c : ℕ) → is_ascii_digit c ≡ true → (48 ≤ c) × (c ≤ 57)
digit_bounds c h = (grind (arith, nat_tests), grind (arith, nat_tests))

-- as many digits with one sum are the same
pub same_digits : (a b : List ℕ) → list_all is_ascii_digit a ≡ true → list_all is_ascii_digit b ≡ true → length a ≡ length b
    → digits_sum a ≡ digits_sum b → a ≡ b
same_digits [] [] p q l e = refl
same_digits [] (y ∷ ys) p q l e = absurd (omega arith)
same_digits (x ∷ xs) [] p q l e = absurd (omega arith)
same_digits (x ∷ xs) (y ∷ ys) p q l e =
    let long : length xs ≡ length ys = omega arith in
    let one = and_parts (is_ascii_digit x) (list_all is_ascii_digit xs) p in
    let two = and_parts (is_ascii_digit y) (list_all is_ascii_digit ys) q in
    let r : digits_sum xs < 10 ^ length xs = digits_sum-lt xs (length xs) one.1 (omega arith) in
    let s : digits_sum ys < 10 ^ length xs = rw long (digits_sum-lt ys (length ys) two.1 (omega arith)) in
    let both : (x - 48) * 10 ^ length xs + digits_sum xs ≡ (y - 48) * 10 ^ length xs + digits_sum ys =
    e ∙ ap (λ n. (y - 48) * 10 ^ n + digits_sum ys) (sym long) in
    let first : x - 48 ≡ y - 48 = digit_same (x - 48) (y - 48) (digits_sum xs) (digits_sum ys) (10 ^ length xs) r s both in
    let rest : digits_sum xs ≡ digits_sum ys = rest_same (x - 48) (y - 48) (digits_sum xs) (digits_sum ys) (10 ^ length xs) r s both in
    let (xl, xh) = digit_bounds x one.0 in
    let (yl, yh) = digit_bounds y two.0 in
    let head : x ≡ y = omega arith in
    let tail : xs ≡ ys = same_digits xs ys one.1 two.1 long rest in
    cc

-- digits are their number, padded to as many
pub padded_same : (text : List ℕ) → list_all is_ascii_digit text ≡ true → 0 < length text → length text ≤ 64
    → padded_number (length text) (digits_sum text) ≡ text
padded_same text digits some few =
    let n = digits_sum text in
    let k = length text in
    let small : n < 10 ^ k = digits_sum-lt text k digits (omega arith) in
    let wide : n < 10 ^ 64 = digits_sum-lt text 64 digits few in
    let short : length (decimal n) ≤ k = length-decimal-le_wide k n some small wide in
    let long : length (padded_number k n) ≡ k =
    omega (arith, length-append (replicate (k - length (decimal n)) 48) (decimal n), length-replicate {A = ℕ} (k - length (decimal n)) 48) in
    same_digits (padded_number k n) text (zeros_digits (k - length (decimal n)) (decimal n) (all_digits n wide)) digits long
    (zeros_spelled (k - length (decimal n)) (decimal n) ∙ spelled n wide)

pub some_digits : (n : ℕ) → n < 10 ^ 64 → 0 < length (decimal n)
some_digits n h = (decimal_is_IsNumeral_wide n h).0.0

-- no zeros before a text without a leading zero
no_zeros : (z : ℕ) (dec text : List ℕ) → replicate z 48 ++ dec ≡ text → has_leading_zero text ≡ false → 0 < length dec → dec ≡ text
no_zeros zero dec text e h some = e
no_zeros (suc z) dec [] e h some = absurd (omega (arith, ap length e))
no_zeros (suc z) dec (c ∷ []) e h some =
    absurd (omega (arith, ap length e, length-append (replicate z 48) dec, length-replicate {A = ℕ} z 48))
no_zeros (suc z) dec (c ∷ d ∷ cs) e h some =
    let first : 48 ≡ c = cc in
    let yes : eqb c 48 ≡ true = eq-eqb c 48 (sym first) in
    cc

-- a text of at most 64 digits without a leading zero is that of its number
decimal_few : (text : List ℕ) → list_all is_ascii_digit text ≡ true → 0 < length text → length text ≤ 64 → has_leading_zero text ≡ false
    → decimal (digits_sum text) ≡ text
decimal_few text digits some few h =
    let n = digits_sum text in
    no_zeros (length text - length (decimal n)) (decimal n) text (padded_same text digits some few) h
    (some_digits n (digits_sum-lt text 64 digits few))

-- a longer one has a large number
large : (text : List ℕ) → list_all is_ascii_digit text ≡ true → 64 < length text → has_leading_zero text ≡ false → 10 ^ 64 ≤ digits_sum text
large [] digits long h = absurd (omega arith)
large (c ∷ []) digits long h = absurd (omega arith)
large (c ∷ d ∷ cs) digits long h =
    let bounds = digit_bounds c (and_parts (is_ascii_digit c) (list_all is_ascii_digit (d ∷ cs)) digits).0 in
    let other : c ≢ 48 = λ e. let yes : eqb c 48 ≡ true = eq-eqb c 48 e in cc in
    let power : 10 ^ 64 ≤ 10 ^ length (d ∷ cs) = more_power in
    let times : 1 * 10 ^ length (d ∷ cs) ≤ (c - 48) * 10 ^ length (d ∷ cs) = times_more 1 (c - 48) (10 ^ length (d ∷ cs)) (omega (arith, other, bounds)) in
    omega (arith, power, times)
  where
    more_power : 10 ^ 64 ≤ 10 ^ length (d ∷ cs)
    more_power = let least : 64 ≤ length (d ∷ cs) = omega arith in let some : 0 < 10 = lit< tt in pow-le-pow_right some least

    times_more : (a b w : ℕ) → a ≤ b → a * w ≤ b * w
    times_more zero b w h = omega arith
    times_more (suc a) zero w h = absurd (omega arith)
    times_more (suc a) (suc b) w h = let rest = times_more a b w (omega arith) in omega arith

-- a number is read only from its own text
pub number_spelled : (limit : ℕ) (text : List ℕ) (n : ℕ) → limit ≤ 10 ^ 64 → number_in limit text ≡ Some n → (text ≡ decimal n) × (n < limit)
unfolding number_in
number_spelled limit text n most e = elim (cases_Bool (has_leading_zero text)) [
  | inl leads ↦ let none : number_in limit text ≡ None = rw leads refl in cc
  | inr plain ↦ elim (cases_Bool (is_digits (length text) text)) [
    | inr f ↦ let none : number_in limit text ≡ None = rw (plain, f) refl in cc
    | inl t ↦
        let parts = and_parts (list_all is_ascii_digit text) (nat_lt 0 (length text) && nat_le (length text) (length text)) t in
        let some : 0 < length text = grind (arith, nat_tests) in
        let is : number_in limit text ≡ cond (nat_lt (digits_sum text) limit) (Some (digits_sum text)) None = rw (plain, t) refl in
        elim (cases_lt (digits_sum text) limit) [
          | inr high ↦ let none : number_in limit text ≡ None = is ∙ grind (arith, nat_tests) in cc
          | inl low ↦
              let got : number_in limit text ≡ Some (digits_sum text) = is ∙ rw (lt-ltb _ _ low) refl in
              let same : n ≡ digits_sum text = cc in
              let few : length text ≤ 64 = short text parts.0 plain (omega arith) in
              (sym (ap decimal same ∙ decimal_few text parts.0 some few plain), omega arith)
        ]
  ]
]
  where
    short : (text : List ℕ) → list_all is_ascii_digit text ≡ true → has_leading_zero text ≡ false → digits_sum text < 10 ^ 64 → length text ≤ 64
    short text digits plain low = elim (cases_lt 64 (length text)) [
      | inl long ↦ absurd (omega (arith, large text digits long plain))
      | inr few ↦ few
    ]

-- the text of a number has no leading zero
abbrev Leads : ℕ → List ℕ → Type 0
Leads n ds = (0 < length ds) × (0 < n → 48 < get_or ds 0 0)

first_digit : (n : ℕ) → n < 10 ^ 64 → Leads n (decimal n)
first_digit n h = decimal_by_steps_wide Leads one more n h
  where
    one : (n : ℕ) → n < 10 → Leads n ((48 + n) ∷ [])
    one n small = (omega arith, λ some. omega arith)

    more : (n : ℕ) (ds : List ℕ) → 10 ≤ n → Leads (n / 10) ds → Leads n (ds ++ ((48 + n % 10) ∷ []))
    more n ds high (some, first) =
        let same : get_or (ds ++ ((48 + n % 10) ∷ [])) 0 0 ≡ get_or ds 0 0 = get_or_append_left ds ((48 + n % 10) ∷ []) 0 0 some in
        (omega (arith, length-append ds ((48 + n % 10) ∷ [])), λ pos. omega (arith, same, first (omega arith)))

not_leading : (text : List ℕ) → 48 < get_or text 0 0 → has_leading_zero text ≡ false
not_leading [] h = refl
not_leading (c ∷ []) h = refl
not_leading (c ∷ d ∷ cs) h = ne_eqb c 48 (λ e. absurd (omega arith))

no_leading_zero : (m : ℕ) → m < 10 ^ 64 → has_leading_zero (decimal m) ≡ false
no_leading_zero zero wide = ap has_leading_zero (decimal_digit 0 (lit< tt))
no_leading_zero (suc m) wide =
    let first = first_digit (suc m) wide in
    not_leading (decimal (suc m)) (first.1 (omega arith))

-- and from that text it is read
pub number_again : (limit n : ℕ) → n < limit → limit ≤ 10 ^ 64 → number_in limit (decimal n) ≡ Some n
unfolding number_in
number_again limit n low most =
    let wide : n < 10 ^ 64 = omega arith in
    let digits : is_digits (length (decimal n)) (decimal n) ≡ true =
    is_digits_yes (length (decimal n)) (decimal n) (all_digits n wide) (some_digits n wide) (omega arith) in
    let plain : has_leading_zero (decimal n) ≡ false = no_leading_zero n wide in
    rw (plain, digits, spelled n wide, lt-ltb _ _ low) refl
