-- The index of a list of numbers: if they ascend, and with one more number.
use Rattle.dsr_ledger.proofs.Common.{◌≡◌, ℕ, zero, suc, ◌<◌, cond, not, List, [], ◌∷◌, ◌++◌, length, get_or, nat_eq, refl, sym, ap, ◌∙◌, arith, subst, ◌+◌, ◌-◌, ◌≤◌, take, drop, Result, Ok, Err, Option, None, Some, slice_get, map, nat_tests, length_push, length-map, drop_all, drop-append-le, take_more, get_or-map, get_or_append_left, get_or_push, length-take, get_or_default, get_or-take, list_any_none, position-Some, gets, slice_get-get_or, place_in, AreApart, IsSearchInRange, IsBinarySearchResult, IsNonDecreasingBy, nat_cmp, ordering_index, ranked, insert_key, Rise, position, prefix_len, option_map}
use Rattle.std.specs.Result.{result_ok}
use Rattle.std.proofs.lemmas.List.{length-drop}
use Rattle.dsr_ledger.proofs.NumberedLemmas.{none_any, position_is, position_none}

-- one more number, above the last one
pub rise_more : (ns : List ℕ) (n : ℕ) → Rise ns → ((last : ℕ) → slice_get ns (length ns - 1) ≡ Some last → last < n) → Rise (ns ++ n ∷ [])
rise_more ns n rise above i j less within =
    let last = λ (some : 0 < length ns). above (get_or ns (length ns - 1) 0) (slice_get-get_or ns (length ns - 1) 0 (omega arith)) in
    let before = get_or_append_left ns (n ∷ []) 0 in
    grind (arith, last, rise i j, rise i (length ns - 1), length_push ns n, before i, before j, get_or_push ns n 0 j)

-- what a binary search finds among items whose numbers ascend
module _ {X : Type 0} (number : X → ℕ) (n : ℕ) where
  module _ (xs : List X) (d : X) (rise : Rise (map number xs)) where
    comparisons_rise : IsNonDecreasingBy (λ x. ordering_index (nat_cmp (number x) n)) xs
    comparisons_rise i j e le below =
        let first = get_or-map number xs i e 0 (omega arith) in let second = get_or-map number xs j e 0 below in
        grind (arith, nat_tests, length-map xs number, rise i j, λ (s : i ≡ j). ap (λ k. number (get_or xs k e)) s)

    search_is : (r : Result ℕ ℕ) → IsSearchInRange r (length xs) → IsBinarySearchResult (λ x. nat_cmp (number x) n) xs r
        → result_ok r ≡ place_in (map number xs) n
    search_is (Ok i) below equal =
        let here = get_or-map number xs i d 0 below in let same = ranked (number (get_or xs i d)) n _ (sym (equal d)) in
        let long = length-map xs number in let within : i < length (map number xs) = omega (arith, below) in
        sym (position_is (nat_eq n) (map number xs) i 0 within (grind (arith, nat_tests)) (λ k l. grind (arith, nat_tests, rise k i l within)))
    search_is (Err i) bound parted =
        sym (position_none (nat_eq n) (map number xs) 0 (λ k below.
        let long = length-map xs number in let at = get_or-map number xs k d 0 (omega arith) in
        let front = λ (l : k < i). ranked (number (get_or xs k d)) n _ (sym ((parted comparisons_rise).0 k d (omega arith) l)) in
        let back = λ (l : i ≤ k). ranked (number (get_or xs k d)) n _ (sym ((parted comparisons_rise).1 k d l (omega arith))) in
        grind (arith, nat_tests, front, back)))

  pub searched : (xs : List X) → Rise (map number xs) → (r : Result ℕ ℕ) → IsSearchInRange r (length xs) → IsBinarySearchResult (λ x. nat_cmp (number x) n) xs r
      → result_ok r ≡ place_in (map number xs) n
  searched [] rise (Ok i) bound h = absurd (omega (arith, bound))
  searched [] rise (Err i) bound h = refl
  searched (x ∷ xs) rise r bound h = search_is (x ∷ xs) x rise r bound h

-- what a search of the first items finds, and what a search of the others finds once it has found nothing
module _ {X : Type 0} (number : X → ℕ) (n : ℕ) where
  abbrev passed_of : List X → ℕ
  passed_of xs = prefix_len (λ x. not (nat_eq n (number x))) xs

  abbrev passed : List X → ℕ
  passed xs = prefix_len (λ k. not (nat_eq n k)) (map number xs)

  first_passed : (k : ℕ) (xs : List X) → passed_of (take k xs) < length (take k xs) → passed xs ≡ passed_of (take k xs)
  first_passed zero xs less = absurd (omega (arith, less))
  first_passed (suc k) [] less = absurd (omega (arith, less))
  first_passed (suc k) (x ∷ xs) less = grind (arith, first_passed k xs)

  later_passed : (k : ℕ) (xs : List X) → length (take k xs) ≤ passed_of (take k xs) → passed xs ≡ length (take k xs) + passed (drop k xs)
  later_passed zero xs all = grind (arith)
  later_passed (suc k) [] all = refl
  later_passed (suc k) (x ∷ xs) all = grind (arith, later_passed k xs)

  pub found_first : (k i : ℕ) (xs : List X) → Some i ≡ position (λ x. nat_eq n (number x)) (take k xs) → Some i ≡ place_in (map number xs) n
  found_first k i xs here =
      grind (arith, nat_tests, first_passed k xs, length-map xs number, length-take k xs)

  pub found_later : (k : ℕ) (xs : List X) (o : Option ℕ) → None ≡ position (λ x. nat_eq n (number x)) (take k xs) → o ≡ place_in (map number (drop k xs)) n
      → option_map (λ i. i + k) o ≡ place_in (map number xs) n
  found_later k xs o none there =
      grind (arith, nat_tests, later_passed k xs, length-map xs number, length-map (drop k xs) number, length-take k xs, length-drop k xs)

-- a number that a list of numbers lacks goes last
pub goes_last : (ns : List ℕ) (n : ℕ) → place_in ns n ≡ None → insert_key nat_eq ns n ≡ ns ++ n ∷ []
goes_last ns n none = ap (λ b. cond b ns (ns ++ n ∷ [])) (none_any (nat_eq n) ns none)

-- the first of some distinct numbers, with the next one
pub next_number : (ns : List ℕ) (i n : ℕ) → AreApart ns → slice_get ns i ≡ Some n → insert_key nat_eq (take i ns) n ≡ take (i + 1) ns
next_number ns i n apart here =
    let before = (position-Some (nat_eq n) ns i n (apart i n here)).2 in
    let none = list_any_none (nat_eq n) (take i ns) (λ k d l. grind (arith, before k, length-take i ns, get_or-take i ns k d, get_or_default ns k d n)) in
    ap (λ b. cond b (take i ns) (take i ns ++ n ∷ [])) none ∙ grind (arith, gets, take_more ns i n)

-- one more number: of at most 16, or above the ones that ascend
pub few_more : (ns : List ℕ) (n : ℕ) → length ns < 16 → Rise (drop 16 (ns ++ n ∷ []))
few_more ns n few = subst Rise (sym (drop_all 16 (ns ++ n ∷ []) (omega (arith, length_push ns n, few)))) (λ i j less within. absurd (omega (arith, within)))

pub more_rise : (ns : List ℕ) (n : ℕ) → 16 ≤ length ns → Rise (drop 16 ns ++ n ∷ []) → Rise (drop 16 (ns ++ n ∷ []))
more_rise ns n many = subst Rise (sym (drop-append-le 16 ns (n ∷ []) many))
