-- Entries in the order of their keys.
use Rattle.dsr_ledger.proofs.Common.{arith, ◌≡◌, List, [], ◌∷◌, Bool, true, false, cond, T, get_or, refl, sym, ◌∙◌, ap, subst, None, Some, map, filter, is_some, ◌&&◌, ◌||◌, list_any, AllByRecursion, Contains, IsStrictlySortedBy, is_lt, eq_by_cmp, Ordering, Less, Equal, IsTotalOrder, Equal-is, keys_of, Decides, cond_both, Decides-and, eq_by_cmp_equiv, map-id, any-filter_same, list_any-from_Contains, recursion_from_All, Contains-get_or, map-map, in_order}
use Rattle.std.specs.FinMap as finite
use Rattle.std.specs.FinMap.Entries.{below_all, is_sorted, find, is_some-find, same_entries}
use Rattle.std.proofs.lemmas.List.Kept.{IsStrictlySortedBy-filter}

is_true : (b : Bool) → T b → b ≡ true
is_true true h = refl
is_true false h = absurd h

module _ {K : Type 0} (R : K → K → Ordering) (total : IsTotalOrder R) (exact : (a b : K) → R a b ≡ Equal → a ≡ b) where
  below_is : {V : Type 0} (x : K) (es : List (K × V)) → Decides (below_all R x es) (AllByRecursion (λ y. R x y ≡ Less) (keys_of es))
  below_is x [] = (λ _. tt, λ _. refl)
  below_is x (e ∷ es) = Decides-and _ _ (grind arith, λ less. ap is_lt less) (below_is x es)

  sorted_is : {V : Type 0} (es : List (K × V)) → Decides (is_sorted R es) (IsStrictlySortedBy R (keys_of es))
  unfolding IsStrictlySortedBy
  sorted_is [] = (λ _. tt, λ _. refl)
  sorted_is (e ∷ es) = Decides-and _ _ (below_is e.0 es) (sorted_is es)

  module _ {X : Type 0} (f : K → X) where
    abbrev made : List K → List (K × X)
    made = map (λ k. (k, f k))

    abbrev ordered : List K → List (K × X)
    ordered = in_order R f

    made_sorted : (ks : List K) → IsStrictlySortedBy R ks → T (is_sorted R (made ks))
    made_sorted ks h = subst T (sym ((sorted_is (made ks)).1 (subst (IsStrictlySortedBy R) (sym (map-map (λ e. e.0) (λ k. (k, f k)) ks ∙ map-id ks)) h))) tt

    -- what is found among a function's values
    find-made : (ks : List K) (q : K) → find R q (made ks) ≡ cond (list_any (eq_by_cmp R q) ks) (Some (f q)) None
    find-made [] q = refl
    find-made (k ∷ ks) q =
        elim (eq_by_cmp R q k) as (λ b. eq_by_cmp R q k ≡ b → cond b (Some (f k)) (find R q (made ks))
        ≡ cond (b || list_any (eq_by_cmp R q) ks) (Some (f q)) None) [
          | true ↦ λ e. ap (λ x. Some (f x)) (sym (exact q k ((Equal-is (R q k)).0 e)))
          | false ↦ λ _. find-made ks q
        ] refl

    find-in_order : (ks : List K) (q : K) → find R q (ordered ks) ≡ cond (list_any (eq_by_cmp R q) ks) (Some (f q)) None
    find-in_order ks q = sym (finite.get-entries (finite.from_entries {R = R} (made ks)) q) ∙ finite.get-from_entries total (made ks) q ∙ find-made ks q

    -- keys in order are those of a list if they have the same members
    made_is : (ks ls : List K) → IsStrictlySortedBy R ls → ((q : K) → list_any (eq_by_cmp R q) ls ≡ list_any (eq_by_cmp R q) ks) → made ls ≡ ordered ks
    made_is ks ls sorted same =
        same_entries R total exact (made ls) (ordered ks) (made_sorted ls sorted) (finite.entries_sorted (finite.from_entries {R = R} (made ks)))
        (λ q. find-made ls q ∙ ap (λ b. cond b (Some (f q)) None) (same q) ∙ sym (find-in_order ks q))

    -- the keys in order are those of the list
    pub any-in_order : (ks : List K) (q : K) → list_any (eq_by_cmp R q) (keys_of (ordered ks)) ≡ list_any (eq_by_cmp R q) ks
    any-in_order ks q =
        sym (is_some-find R q (ordered ks)) ∙ ap is_some (find-in_order ks q)
        ∙ cond_both (list_any (eq_by_cmp R q) ks) (Some (f q)) None (λ o. is_some o ≡ list_any (eq_by_cmp R q) ks) sym sym

    pub sorted_in_order : (ks : List K) → IsStrictlySortedBy R (keys_of (ordered ks))
    sorted_in_order ks = (sorted_is (ordered ks)).0 (is_true _ (finite.entries_sorted (finite.from_entries {R = R} (made ks))))

    pub mapped_in_order : {Y : Type 0} (ks : List K) (g : K × X → Y) → map g (ordered ks) ≡ map (λ k. g (k, f k)) (keys_of (ordered ks))
    mapped_in_order ks g =
        ap (map g) (sym (made_is ks (keys_of (ordered ks)) (sorted_in_order ks) (any-in_order ks))) ∙ map-map g (λ k. (k, f k)) (keys_of (ordered ks))

    -- each key in order is one of the list
    pub keys_among : (ks : List K) → AllByRecursion (λ k. list_any (eq_by_cmp R k) ks ≡ true) (keys_of (ordered ks))
    keys_among ks =
        let mine = keys_of (ordered ks) in
        recursion_from_All (λ k. list_any (eq_by_cmp R k) ks ≡ true) mine (λ i d below.
        sym (any-in_order ks (get_or mine i d))
        ∙ list_any-from_Contains (eq_by_cmp_equiv total) (get_or mine i d) mine (Contains-get_or mine i d below))

    -- keys in order that pass a test: f maps them to what it gives for the list's keys, each once, in order
    pub in_order_is : (ks : List K) (p : K → Bool) (ls : List K) → IsStrictlySortedBy R ls → ((q : K) → p q ≡ list_any (eq_by_cmp R q) ks)
        → ((q : K) → p q ≡ true → Contains ls q) → made (filter p ls) ≡ ordered ks
    in_order_is ks p ls sorted is all =
        made_is ks (filter p ls) (IsStrictlySortedBy-filter R p ls sorted) (λ q.
        any-filter_same (eq_by_cmp R q) p (p q) (λ k t. sym (ap p (exact q k ((Equal-is (R q k)).0 t)))) ls ∙ by q (p q) refl ∙ is q)
      where
        by : (q : K) (b : Bool) → p q ≡ b → (b && list_any (eq_by_cmp R q) ls) ≡ b
        by q false e = refl
        by q true e = list_any-from_Contains (eq_by_cmp_equiv total) q ls (all q e)

  -- the same keys with the same values
  pub same_in_order : {X : Type 0} (f g : K → X) (ks ls : List K) (p : K → Bool) → ((q : K) → p q ≡ list_any (eq_by_cmp R q) ks)
      → ((q : K) → p q ≡ list_any (eq_by_cmp R q) ls) → ((q : K) → f q ≡ g q) → in_order R f ks ≡ in_order R g ls
  same_in_order f g ks ls p mine other same =
      let own = keys_of (in_order R g ls) in
      sym (made_is f ks own (sorted_in_order g ls) (λ q. any-in_order g ls q ∙ sym (other q) ∙ mine q))
      ∙ (λ i. map (λ k. (k, same k i)) own) ∙ made_is g ls own (sorted_in_order g ls) (any-in_order g ls)
