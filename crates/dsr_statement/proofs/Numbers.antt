-- Usages and amounts are read from their own texts, and from no others.
use Rattle.std.proofs.Common.{arith, lit≤, take, take_all, ◌≡◌, ◌≢◌, ◌<◌, ◌≤◌, ◌+◌, ◌-◌, ◌*◌, ◌/◌, ◌%◌, ◌^◌, ℕ, zero, suc, List, [], ◌∷◌, ◌++◌, length, Bool, true, false, refl, ap, sym, ◌∙◌, inl, inr, Option, Some, None, cond, eqb, nat_lt}
use Rattle.std.specs.Prelude.{ℤ, pos, negsuc, neg_ℤ}
use Rattle.std.specs.Option.{option_map}
use Rattle.std.specs.List.{list_all, slice_split, join_with_byte}
use Rattle.std.specs.Char.{is_ascii_digit}
use Rattle.std.specs.Fmt.{decimal, signed_decimal}
use Rattle.std.specs.Simd.Lanes.{chunk}
use Rattle.std.proofs.Math.Seq.{take-append_seam}
use Rattle.std.specs.Int.{is_negative}
use Rattle.std.proofs.lemmas.Nat.{div-mul-add, mod-mul-add}
use Rattle.std.proofs.lemmas.Bool.{and_parts, and_from, le-ltb, lt-ltb, cases_Bool, eqb-true, eq-eqb, ne_eqb}
use Rattle.std.proofs.lemmas.Bool.Decides.{nat_tests}
use Rattle.std.proofs.lemmas.List.Splits.{join_with_byte-slice_split}
use Rattle.dsr_cells.specs.inner.Digits.{IsFilledUp}
use Rattle.dsr_cells.specs.meaning.Numbers.{digits_sum, digits_of, is_digits}
use Rattle.dsr_cells.specs.meaning.Texts.{is_run_of}
use Rattle.dsr_cells.specs.meaning.Written.{padded_number, written}
use Rattle.dsr_cells.proofs.Numbers.{digits_sum-lt, is_digits_yes}
use Rattle.dsr_cells.proofs.Spelled.{all_digits, zeros_digits, zeros_spelled, spelled, padded_length}
use Rattle.dsr_statement.specs.meaning.Cells.{are_usages, is_amount}
use Rattle.dsr_statement.specs.inner.Numbers.{◌>>=◌, below, not_zero, signed_in, usages_in, units_of_parts, units_in, amount_in, number_in, has_leading_zero}
use Rattle.dsr_statement.proofs.Digits.{number_again, number_spelled, padded_same, some_digits}
use Rattle.dsr_statement.proofs.Signs.{signed_plain, signed_minus, units_cut}

-- what a chain of readings has read
pub bind_some : {A B : Type 0} (o : Option A) (f : A → Option B) (y : B) → (o >>= f) ≡ Some y → (x : A) × (o ≡ Some x) × (f x ≡ Some y)
bind_some None f y e = cc
bind_some (Some x) f y e = (x, refl, e)

pub map_some : {A B : Type 0} (f : A → B) (o : Option A) (y : B) → option_map f o ≡ Some y → (x : A) × (o ≡ Some x) × (f x ≡ y)
map_some f None y e = cc
map_some f (Some x) y e = (x, refl, cc)

pub if_some : {A : Type 0} (b : Bool) (x y : A) → cond b (Some x) None ≡ Some y → (b ≡ true) × (x ≡ y)
if_some true x y e = (refl, cc)
if_some false x y e = cc

-- with a minus sign below zero
abbrev pub signed_text : (ℕ → List ℕ) → ℤ → List ℕ
signed_text print (pos n) = print n
signed_text print (negsuc n) = 45 ∷ print (suc n)

not_zero_some : (o : Option ℕ) (m : ℕ) → not_zero o ≡ Some m → (n : ℕ) × (m ≡ suc n) × (o ≡ Some (suc n))
not_zero_some None m e = cc
not_zero_some (Some zero) m e = let none : not_zero (Some zero) ≡ None = refl in cc
not_zero_some (Some (suc n)) m e =
    let other : eqb (suc n) 0 ≡ false = ne_eqb (suc n) 0 (λ q. absurd (omega arith)) in
    let some : not_zero (Some (suc n)) ≡ Some (suc n) = rw other refl in
    let same : suc n ≡ m = cc in
    (n, sym same, refl)

signed_from : (spelled : ℕ → List ℕ → Option ℕ) (print : ℕ → List ℕ) (most_below most : ℕ) (text : List ℕ) (z : ℤ)
    → ((t : List ℕ) (n : ℕ) → spelled most_below t ≡ Some n → t ≡ print n)
    → ((t : List ℕ) (n : ℕ) → spelled most t ≡ Some n → t ≡ print n)
    → signed_in spelled most_below most text ≡ Some z → text ≡ signed_text print z
signed_from spelled print most_below most [] z minus plain e =
    let (n, is, same) = map_some pos (spelled most []) z e in
    plain [] n is ∙ ap (signed_text print) same
signed_from spelled print most_below most (c ∷ cs) z minus plain e = elim (cases_Bool (eqb c 45)) [
  | inl sign ↦
      let read : option_map (λ n. neg_ℤ (pos n)) (not_zero (spelled most_below cs)) ≡ Some z = rw sign at e in
      let (m, is, same) = map_some (λ (n : ℕ). neg_ℤ (pos n)) (not_zero (spelled most_below cs)) z read in
      let (n, suc_, got) = not_zero_some (spelled most_below cs) m is in
      let value : negsuc n ≡ z = ap (λ (k : ℕ). neg_ℤ (pos k)) (sym suc_) ∙ same in
      let head : c ≡ 45 = eqb-true c 45 sign in
      let tail : cs ≡ print (suc n) = minus cs (suc n) got in
      let all : c ∷ cs ≡ 45 ∷ print (suc n) = cc in
      all ∙ ap (signed_text print) value
  | inr no_sign ↦
      let read : option_map pos (spelled most (c ∷ cs)) ≡ Some z = rw no_sign at e in
      let (n, is, same) = map_some pos (spelled most (c ∷ cs)) z read in
      plain (c ∷ cs) n is ∙ ap (signed_text print) same
]

pub as_signed_decimal : (z : ℤ) → signed_text decimal z ≡ signed_decimal z
as_signed_decimal (pos n) = refl
as_signed_decimal (negsuc n) = refl

pub usages_spelled : (text : List ℕ) (z : ℤ) → usages_in text ≡ Some z → text ≡ signed_decimal z
unfolding usages_in
usages_spelled text z e =
    signed_from number_in decimal (2 ^ 127 + 1) (2 ^ 127) text z (λ t n h. (number_spelled (2 ^ 127 + 1) t n (lit≤ tt) h).0)
    (λ t n h. (number_spelled (2 ^ 127) t n (lit≤ tt) h).0) e
    ∙ as_signed_decimal z

-- an amount without its sign
abbrev pub units_text : ℕ → List ℕ
units_text u = decimal (u / 10 ^ 10) ++ (46 ∷ padded_number 10 (u % 10 ^ 10))

below_some : (limit n m : ℕ) → below limit (Some n) ≡ Some m → n ≡ m
below_some limit n m e = (if_some (nat_lt n limit) n m e).1

parts_text : (limit : ℕ) (parts : List (List ℕ)) (u : ℕ) → limit ≤ 10 ^ 64 → units_of_parts limit parts ≡ Some u → join_with_byte 46 parts ≡ units_text u
parts_text limit [] u most e = cc
parts_text limit (whole ∷ []) u most e = cc
parts_text limit (whole ∷ decimals ∷ []) u most e = elim (cases_Bool (is_run_of is_ascii_digit 10 decimals)) [
  | inr f ↦ let none : units_of_parts limit (whole ∷ decimals ∷ []) ≡ None = rw f refl in cc
  | inl t ↦
      let read : (number_in limit whole >>= (λ n. below limit (Some (n * 10 ^ 10 + digits_sum decimals)))) ≡ Some u = rw t at e in
      let (n, is, sum) = bind_some (number_in limit whole) (λ (n : ℕ). below limit (Some (n * 10 ^ 10 + digits_sum decimals))) u read in
      let same : n * 10 ^ 10 + digits_sum decimals ≡ u = below_some limit _ u sum in
      let run = and_parts (list_all is_ascii_digit decimals) (eqb (length decimals) 10) t in
      let ten : length decimals ≡ 10 = eqb-true _ _ run.1 in
      let low : digits_sum decimals < 10 ^ 10 = digits_sum-lt decimals 10 run.0 (omega arith) in
      let front : u / 10 ^ 10 ≡ n = ap (λ x. x / 10 ^ 10) (sym same) ∙ div-mul-add n (10 ^ 10) (digits_sum decimals) low in
      let back : u % 10 ^ 10 ≡ digits_sum decimals = ap (λ x. x % 10 ^ 10) (sym same) ∙ mod-mul-add n (10 ^ 10) (digits_sum decimals) low in
      let number : whole ≡ decimal n = (number_spelled limit whole n most is).0 in
      let fraction : decimals ≡ padded_number 10 (digits_sum decimals) =
      sym (ap (λ k. padded_number k (digits_sum decimals)) (sym ten) ∙ padded_same decimals run.0 (omega arith) (omega arith)) in
      let a : whole ≡ decimal (u / 10 ^ 10) = number ∙ ap decimal (sym front) in
      let b : decimals ≡ padded_number 10 (u % 10 ^ 10) = fraction ∙ ap (padded_number 10) (sym back) in
      ap (λ w. w ++ (46 ∷ decimals)) a ∙ ap (λ d. decimal (u / 10 ^ 10) ++ (46 ∷ d)) b
]
parts_text limit (a ∷ b ∷ c ∷ more) u most e = cc

units_spelled : (limit : ℕ) (text : List ℕ) (u : ℕ) → limit ≤ 10 ^ 64 → units_in limit text ≡ Some u → text ≡ units_text u
unfolding units_in
units_spelled limit text u most e =
    sym (join_with_byte-slice_split 46 text) ∙ parts_text limit (slice_split (λ b. eqb b 46) text) u most e

pub as_written : (z : ℤ) → signed_text units_text z ≡ written z
as_written (pos u) = let positive : is_negative (pos u) ≡ false = le-ltb u 0 (omega arith) in rw positive refl
as_written (negsuc u) = refl

pub amount_spelled : (text : List ℕ) (z : ℤ) → amount_in text ≡ Some z → text ≡ written z
unfolding amount_in
amount_spelled text z e =
    signed_from units_in units_text (2 ^ 123) (2 ^ 123) text z (λ t n h. units_spelled (2 ^ 123) t n (lit≤ tt) h)
    (λ t n h. units_spelled (2 ^ 123) t n (lit≤ tt) h) e
    ∙ as_written z

pub below_limit : (n limit : ℕ) → nat_lt n limit ≡ true → n < limit
below_limit n limit h = grind (arith, nat_tests)

-- a number of up to eight digits without leading zeros, and ten decimals, which are read from the text by words
pub parts_by_words : (limit : ℕ) (text whole decimals : List ℕ) (front units : ℕ) → 2 ^ 64 ≤ limit → text ≡ whole ++ 46 ∷ decimals → length decimals ≡ 10
    → has_leading_zero whole ≡ false → digits_of 8 (chunk 0 (length whole) text) ≡ Some front → front < 2 ^ 30 → IsFilledUp 10 (chunk 0 10 decimals) units
    → units_of_parts limit (whole ∷ decimals ∷ []) ≡ Some (front * 10 ^ 10 + units)
unfolding number_in
parts_by_words limit text whole decimals front units most cut ten no_zero read few filled =
    let own : take (length whole) text ≡ whole = ap (take (length whole)) cut ∙ take-append_seam whole (46 ∷ decimals) in
    let all : take 10 decimals ≡ decimals = take_all 10 decimals (omega (arith, ten)) in
    let (digits, front_is) = if_some (is_digits 8 whole) (digits_sum whole) front (ap (digits_of 8) (sym own) ∙ read) in
    let tests = and_parts (list_all is_ascii_digit whole) _ digits in
    let some : nat_lt 0 (length whole) ≡ true = (and_parts (nat_lt 0 (length whole)) _ tests.1).0 in
    let again : is_digits (length whole) whole ≡ true = is_digits_yes (length whole) whole tests.0 (below_limit 0 (length whole) some) (omega arith) in
    let run : list_all is_ascii_digit decimals ≡ true = ap (list_all is_ascii_digit) (sym all) ∙ (and_parts _ _ filled.0).0 in
    let units_is : units ≡ digits_sum decimals = filled.1 ∙ rw (all, ten) (omega arith) in
    let low : digits_sum decimals < 10 ^ 10 = digits_sum-lt decimals 10 run (omega (arith, ten)) in
    let front_low : nat_lt (digits_sum whole) limit ≡ true = lt-ltb _ _ (omega (arith, front_is, few, most)) in
    let sum_low : nat_lt (digits_sum whole * 10 ^ 10 + digits_sum decimals) limit ≡ true = lt-ltb _ _ (omega (arith, front_is, few, most, low)) in
    rw (run, ten, no_zero, again, front_low, sum_low, front_is, units_is) refl

-- a text that begins with a digit has no minus sign
no_minus : (front more rest : List ℕ) → list_all is_ascii_digit front ≡ true → 0 < length front → front ++ more ≢ 45 ∷ rest
no_minus [] more rest digits some e = absurd (omega arith)
no_minus (c ∷ cs) more rest digits some e =
    let head : c ≡ 45 = cc in
    let digit : is_ascii_digit c ≡ true = (and_parts (is_ascii_digit c) (list_all is_ascii_digit cs) digits).0 in
    let other : is_ascii_digit 45 ≡ false = refl in
    let same : is_ascii_digit c ≡ is_ascii_digit 45 = ap is_ascii_digit head in
    cc

no_minus_alone : (text rest : List ℕ) → list_all is_ascii_digit text ≡ true → 0 < length text → text ≢ 45 ∷ rest
no_minus_alone [] rest digits some e = absurd (omega arith)
no_minus_alone (c ∷ cs) rest digits some e =
    let head : c ≡ 45 = cc in
    let digit : is_ascii_digit c ≡ true = (and_parts (is_ascii_digit c) (list_all is_ascii_digit cs) digits).0 in
    let other : is_ascii_digit 45 ≡ false = refl in
    let same : is_ascii_digit c ≡ is_ascii_digit 45 = ap is_ascii_digit head in
    cc

-- a number is read again with its sign
signed_again : (spelled : ℕ → List ℕ → Option ℕ) (print : ℕ → List ℕ) (most_below most : ℕ) (z : ℤ)
    → ((n : ℕ) → z ≡ pos n → (spelled most (print n) ≡ Some n) × ((rest : List ℕ) → print n ≢ 45 ∷ rest))
    → ((n : ℕ) → z ≡ negsuc n → spelled most_below (print (suc n)) ≡ Some (suc n))
    → signed_in spelled most_below most (signed_text print z) ≡ Some z
signed_again spelled print most_below most (pos n) plain minus =
    let (again, no_sign) = plain n refl in
    signed_plain spelled most_below most (print n) no_sign ∙ ap (option_map pos) again
signed_again spelled print most_below most (negsuc n) plain minus =
    let again = minus n refl in
    let other : eqb (suc n) 0 ≡ false = ne_eqb (suc n) 0 (λ q. absurd (omega arith)) in
    let some : not_zero (Some (suc n)) ≡ Some (suc n) = rw other refl in
    signed_minus spelled most_below most (45 ∷ print (suc n)) (print (suc n)) refl
    ∙ ap (λ o. option_map (λ m. neg_ℤ (pos m)) (not_zero o)) again ∙ ap (option_map (λ m. neg_ℤ (pos m))) some

pub usages_again : (z : ℤ) → are_usages z ≡ true → usages_in (signed_decimal z) ≡ Some z
unfolding usages_in
usages_again z h =
    ap (signed_in number_in (2 ^ 127 + 1) (2 ^ 127)) (sym (as_signed_decimal z))
    ∙ signed_again number_in decimal (2 ^ 127 + 1) (2 ^ 127) z
    (λ n e.
    let low : n < 2 ^ 127 = below_limit n (2 ^ 127) (ap are_usages (sym e) ∙ h) in
    let wide : n < 10 ^ 64 = omega arith in
    (number_again (2 ^ 127) n low (lit≤ tt), λ rest. no_minus_alone (decimal n) rest (all_digits n wide) (some_digits n wide)))
    (λ n e. number_again (2 ^ 127 + 1) (suc n) (below_limit (suc n) (2 ^ 127 + 1) (ap are_usages (sym e) ∙ h)) (lit≤ tt))

units_again : (limit u : ℕ) → u < limit → limit ≤ 10 ^ 64 → units_in limit (units_text u) ≡ Some u
unfolding units_in
units_again limit u low most =
    let front : u / 10 ^ 10 < limit = omega arith in
    let d : u % 10 ^ 10 < 10 ^ 10 = omega arith in
    let wide : u % 10 ^ 10 < 10 ^ 64 = omega arith in
    let sum : u / 10 ^ 10 * 10 ^ 10 + u % 10 ^ 10 ≡ u = omega arith in
    let cut = units_cut limit (units_text u) (decimal (u / 10 ^ 10)) (padded_number 10 (u % 10 ^ 10)) refl in
    let run : is_run_of is_ascii_digit 10 (padded_number 10 (u % 10 ^ 10)) ≡ true =
    and_from _ _ (zeros_digits (10 - length (decimal (u % 10 ^ 10))) (decimal (u % 10 ^ 10)) (all_digits (u % 10 ^ 10) wide)) (eq-eqb _ _ (padded_length (u % 10 ^ 10) d)) in
    let fraction : digits_sum (padded_number 10 (u % 10 ^ 10)) ≡ u % 10 ^ 10 =
    zeros_spelled (10 - length (decimal (u % 10 ^ 10))) (decimal (u % 10 ^ 10)) ∙ spelled (u % 10 ^ 10) wide in
    cut ∙ rw (run, number_again limit (u / 10 ^ 10) front most, fraction, sum, lt-ltb _ _ low) refl

pub amount_again : (z : ℤ) → is_amount z ≡ true → amount_in (written z) ≡ Some z
unfolding amount_in
amount_again z h =
    ap (signed_in units_in (2 ^ 123) (2 ^ 123)) (sym (as_written z))
    ∙ signed_again units_in units_text (2 ^ 123) (2 ^ 123) z
    (λ n e.
    let low : n < 2 ^ 123 = below_limit n (2 ^ 123) (ap is_amount (sym e) ∙ h) in
    let w : n / 10 ^ 10 < 10 ^ 64 = omega arith in (
      units_again (2 ^ 123) n low (lit≤ tt),
      λ rest. no_minus (decimal (n / 10 ^ 10)) (46 ∷ padded_number 10 (n % 10 ^ 10)) rest (all_digits (n / 10 ^ 10) w) (some_digits (n / 10 ^ 10) w),
    ))
    (λ n e. units_again (2 ^ 123) (suc n) (below_limit (suc n) (2 ^ 123) (ap is_amount (sym e) ∙ h)) (lit≤ tt))
