-- The entries of a book in the order of its accounts.
use Rattle.dsr_ledger.proofs.Common.{◌≡◌, ◌+◌, sorted_from_all_adjacent, apart_from_distinct, List, [], ◌∷◌, true, cond, rules, refl, sym, ◌∙◌, ap, subst, get_or, None, Some, filter, map, ◌||◌, list_any, AllByRecursion, Contains, IsDistinct, IsStrictlySortedBy, eq_by_cmp, keys_of, recursion_from_All, lookup_from_place, IndexMap, IsUnique, get, keys, arith, slice_get-get_or}
use Rattle.std.specs.List.Sorted.{IsSorted}
use Rattle.std.proofs.lemmas.Map.Views.{Contains-keys_from_lookup}
use Rattle.std.specs.Prelude.{IsSome}
use Rattle.dsr_ledger.proofs.OrderLemmas.{in_order_is}
use Rattle.dsr_statement.proofs.Numbers.{if_some}
use Rattle.dsr_sums.specs.declared.account.Account.{Account}
use Rattle.dsr_sums.specs.declared.sums.Sums.{Sums}
use Rattle.dsr_sums.specs.inner.Books.{is_posted_to, entry_of}
use Rattle.dsr_sums.specs.meaning.Accounts.{account_eq, account_cmp}
use Rattle.dsr_sums.specs.meaning.Postings.{Posting, balance, balances}
use Rattle.dsr_sums.proofs.AccountLemmas.{same_account, account_total, account_ties, account_exact, account_equivalence}

posted_is : (ps : List Posting) (q : Account) → is_posted_to ps q ≡ list_any (eq_by_cmp account_cmp q) (map (λ p. p.account) ps)
posted_is [] q = refl
posted_is (p ∷ ps) q = λ i. sym (account_ties q p.account) i || posted_is ps q i

-- distinct accounts that are sorted rise strictly
strictly : (ks : List Account) → IsSorted account_cmp ks → IsDistinct account_eq ks → IsStrictlySortedBy account_cmp ks
unfolding IsStrictlySortedBy
strictly [] sorted distinct = tt
strictly (x ∷ xs) sorted distinct =
    sorted_from_all_adjacent account_total (x ∷ xs) x (λ k within.
    let a = get_or (x ∷ xs) k x in let b = get_or (x ∷ xs) (k + 1) x in
    let apart = apart_from_distinct account_eq (x ∷ xs) k (k + 1) x distinct in
    grind (arith, apart, sorted k x, account_total.antisymm b a, account_ties a b))

module _ {S : Type 0} (m : IndexMap Account Sums S) (ps : List Posting) (held : (a : Account) → get account_eq m a ≡ entry_of ps a)
    (unique : IsUnique account_eq m) where
  -- each entry is that of its account
  own : AllByRecursion (λ e. (is_posted_to ps e.0 ≡ true) × (balance ps e.0 ≡ e.1)) m.entries
  own = recursion_from_All (λ e. (is_posted_to ps e.0 ≡ true) × (balance ps e.0 ≡ e.1)) m.entries (λ i d below.
      let e = get_or m.entries i d in
      if_some (is_posted_to ps e.0) (balance ps e.0) e.1 (
      sym (held e.0) ∙ lookup_from_place account_equivalence m.entries i e.0 e.1 unique (slice_get-get_or m.entries i d below)))

  all_kept : (es : List (Account × Sums)) → AllByRecursion (λ e. (is_posted_to ps e.0 ≡ true) × (balance ps e.0 ≡ e.1)) es
      → filter (is_posted_to ps) (keys_of es) ≡ keys_of es
  all_kept [] h = refl
  all_kept (e ∷ es) h = (λ i. cond (h.0.0 i) (e.0 ∷ all_kept es h.1 i) (filter (is_posted_to ps) (keys_of es)))

  all_made : (es : List (Account × Sums)) → AllByRecursion (λ e. (is_posted_to ps e.0 ≡ true) × (balance ps e.0 ≡ e.1)) es
      → map (λ k. (k, balance ps k)) (keys_of es) ≡ es
  all_made [] h = refl
  all_made (e ∷ es) h = λ i. (e.0, h.0.1 i) ∷ all_made es h.1 i

  -- a posted account has an entry
  listed : (q : Account) → is_posted_to ps q ≡ true → Contains (keys m) q
  listed q h =
      let found : get account_eq m q ≡ Some (balance ps q) = held q ∙ ap (λ b. cond b (Some (balance ps q)) None) h in
      Contains-keys_from_lookup (λ a b. (same_account a b).0) q m.entries (let some : IsSome (Some (balance ps q)) = search rules in subst IsSome (sym found) some)

  -- sorted entries are the balances
  pub balances_are : IsSorted account_cmp (keys m) → m.entries ≡ balances ps
  unfolding balances
  balances_are sorted =
      sym (all_made m.entries own) ∙ ap (map (λ k. (k, balance ps k))) (sym (all_kept m.entries own))
      ∙ in_order_is account_cmp account_total account_exact (balance ps) (map (λ p. p.account) ps) (is_posted_to ps) (keys m) (strictly (keys m) sorted unique) (posted_is ps) listed
