-- Identifiers: their numbers, and their ranks.
use Rattle.dsr_ledger.proofs.Common.{◌≡◌, ℕ, ◌<◌, ◌≤◌, true, false, List, [], ◌∷◌, ◌++◌, length, get_or, decimal, refl, sym, ap, subst, ◌∙◌, arith, nat_tests, Option, None, Some, map, list_all, list_any, bytes_eq, nat_eq, ◌||◌, Ids, Rise, place_in, rank_of, is_between, number_of_id, list_any_at, list_any_none, get_or-map, length-map, length_push, get_or_append_left, get_or_push, position-Some, nat_list_eq_equiv, get_or_default, get_or_from_slice_get}
use Rattle.std.proofs.lemmas.Fmt.{decimal-digits_value}
use Rattle.std.proofs.lemmas.Str.Parse.{digits_value_short}
use Rattle.std.specs.Char.{is_ascii_digit}
use Rattle.dsr_cells.specs.meaning.Numbers.{is_digits, digits_sum}
use Rattle.dsr_cells.proofs.Numbers.{own}
use Rattle.dsr_ledger.proofs.IndexLemmas.{rise_more}
use Rattle.dsr_ledger.proofs.NumberedLemmas.{none_any, position_none}
use Rattle.dsr_ledger.proofs.TextLemmas.{same_text, text_itself}

-- the text of a number that does not begin with 0, or is no longer than that
digits_text : (id : List ℕ) → (get_or id 0 0 ≡ 48 → length id ≤ 1) → is_digits 12 id ≡ true → id ≡ decimal (digits_sum id)
digits_text id first digits =
    let all : list_all is_ascii_digit id ≡ true = grind (arith, nat_tests) in let some : 0 < length id = grind (arith, nat_tests) in
    let short : length id ≤ 12 = grind (arith, nat_tests) in
    sym (decimal-digits_value own id all some (λ zero. let one = first zero in omega arith) (omega (arith, digits_value_short own id 12 all short)))

-- an identifier is the text of its number
text_of_number : (id : List ℕ) (n : ℕ) → number_of_id id ≡ Some n → id ≡ decimal n
text_of_number id n is =
    let zero : get_or id 0 0 ≡ 48 → length id ≤ 1 = grind (arith, nat_tests) in
    let digits : is_digits 12 id ≡ true = grind (arith, nat_tests) in
    let number : digits_sum id ≡ n = grind (arith, nat_tests) in
    digits_text id zero digits ∙ ap decimal number

module _ (id q : List ℕ) (n : ℕ) (is : number_of_id id ≡ Some n) where
  -- identifiers with one number are the same
  same_number : (m : ℕ) → number_of_id q ≡ Some m → n ≡ m → bytes_eq id q ≡ true
  same_number m f e =
      subst (λ t. bytes_eq id t ≡ true) (text_of_number id n is ∙ ap decimal e ∙ sym (text_of_number q m f)) (text_itself id)

  -- and the same ones have one number
  one_number : (m : ℕ) → number_of_id q ≡ Some m → bytes_eq id q ≡ true → n ≡ m
  one_number m f s = let e = ap number_of_id (same_text id q s) in grind (arith, e)

  other_text : number_of_id q ≡ None → bytes_eq id q ≡ false
  other_text f = grind (arith, λ (s : bytes_eq id q ≡ true). ap number_of_id (same_text id q s))

  -- one number more
  pub number_more : (old new : Ids) (of : Option ℕ) → number_of_id q ≡ of
      → ((m : ℕ) → is_between new (Some m) ≡ (nat_eq n m || is_between old (Some m)))
      → is_between new of ≡ (bytes_eq id q || is_between old of)
  number_more old new None f more = grind (arith, other_text f)
  number_more old new (Some m) f more = grind (arith, nat_tests, more m, same_number m f, one_number m f)

-- ascending numbers with one more at the end: without it, and with another one after it
pub rise_before : (ns : List ℕ) (n : ℕ) → Rise (ns ++ n ∷ []) → Rise ns
rise_before ns n rise i j less below =
    let before = get_or_append_left ns (n ∷ []) 0 in grind (arith, rise i j, length_push ns n, before i, before j)

pub rise_after : (ns : List ℕ) (n m : ℕ) → Rise (ns ++ n ∷ []) → n < m → Rise ((ns ++ n ∷ []) ++ m ∷ [])
rise_after ns n m rise less =
    rise_more (ns ++ n ∷ []) m rise (λ last at.
    grind (arith, length_push ns n, get_or_push ns n 0 (length ns), get_or_from_slice_get (ns ++ n ∷ []) (length ns) last 0))

-- a number that is above all of some that ascend is not among them
pub none_above : (ns : List ℕ) (n : ℕ) → Rise (ns ++ n ∷ []) → place_in ns n ≡ None
none_above ns n rise =
    position_none (nat_eq n) ns 0 (λ k below.
    grind (arith, nat_tests, rise k (length ns), length_push ns n, get_or_append_left ns (n ∷ []) 0 k, get_or_push ns n 0 (length ns)))

module _ (id : List ℕ) (run : List (List ℕ)) where
  same_rank : (q : List ℕ) → bytes_eq id q ≡ true → rank_of id ≡ rank_of q
  same_rank q s = ap rank_of (same_text id q s)

  -- an identifier whose rank none of a run has
  pub not_in_run : place_in (map rank_of run) (rank_of id) ≡ None → list_any (bytes_eq id) run ≡ false
  not_in_run none =
      let absent = none_any (nat_eq (rank_of id)) (map rank_of run) none in
      list_any_none (bytes_eq id) run (λ k d l.
      grind (
        arith,
        nat_tests,
        same_rank (get_or run k d),
        get_or-map rank_of run k d 0 l,
        length-map run rank_of,
        list_any_at (nat_eq (rank_of id)) (map rank_of run) k 0,
        absent,
      ))

  -- one that has the rank of an identifier of a run whose ranks ascend is that one, or is not in the run
  pub in_run_at : (i : ℕ) (d : List ℕ) → Rise (map rank_of run) → place_in (map rank_of run) (rank_of id) ≡ Some i
      → list_any (bytes_eq id) run ≡ bytes_eq (get_or run i d) id
  in_run_at i d rise there =
      let at = position-Some (nat_eq (rank_of id)) (map rank_of run) i 0 there in let long = length-map run rank_of in
      let below : i < length run = omega (arith, at.0) in let here = get_or-map rank_of run i d 0 below in
      elim (bytes_eq (get_or run i d) id) as (λ b. bytes_eq (get_or run i d) id ≡ b → list_any (bytes_eq id) run ≡ b) [
        | true ↦ λ e. list_any_at (bytes_eq id) run i d below (nat_list_eq_equiv.symm id (get_or run i d) ∙ e)
        | false ↦ λ e. list_any_none (bytes_eq id) run (λ k f l.
            grind (
              arith,
              nat_tests,
              at.1,
              here,
              same_rank (get_or run k f),
              get_or-map rank_of run k f 0 l,
              rise k i,
              rise i k,
              get_or_default run k f d l,
              nat_list_eq_equiv.symm id (get_or run i d),
              λ (g : k ≡ i). ap (λ j. get_or run j d) g,
            ))
      ] refl
