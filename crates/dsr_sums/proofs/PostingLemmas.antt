-- One more posting.
use Rattle.std.proofs.Common.{◌≡◌, ap, sym, ◌∙◌, refl, Bool, true, false, true≢false, cond, ◌&&◌, ◌||◌, List, [], ◌∷◌, ◌++◌, append-nil, append_assoc, arith}
use Rattle.std.proofs.lemmas.List.Elements.{filter-append}
use Rattle.std.proofs.lemmas.List.Folds.{list_any-append}
use Rattle.std.specs.List.{list_any}
use Rattle.std.specs.Prelude.{ℤ, ◌+ℤ◌, filter, Some, None, unwrap_or}
use Rattle.indexmap.specs.IndexMap.{get}
use Rattle.dsr_sums.specs.declared.account.Account.{Account}
use Rattle.dsr_sums.specs.declared.book.Book.{Book}
use Rattle.dsr_sums.specs.declared.sums.Sums.{Sums}
use Rattle.dsr_ledger.specs.meaning.Limits.{int_sum_by}
use Rattle.dsr_sums.specs.inner.Books.{is_posted_to, entry_of, HoldsPostings, sums_in, IsPosted}
use Rattle.dsr_sums.specs.inner.Plus.{plus, zero_sums}
use Rattle.dsr_sums.specs.meaning.Accounts.{account_eq}
use Rattle.dsr_sums.specs.meaning.Postings.{Posting, posted_to, sums_of, balance, are_in_range, stay_in_range, are_summable}
use Rattle.dsr_sums.proofs.AccountLemmas.{same_account}
use Rattle.dsr_ledger.proofs.EachLemmas.{int_sum_by-append, add-zero}

and_assoc : (a b c : Bool) → (a && (b && c)) ≡ ((a && b) && c)
and_assoc true b c = refl
and_assoc false b c = refl

and_true : (a : Bool) → (a && true) ≡ a
and_true true = refl
and_true false = refl

-- the sums stay in range with one more posting if they did before and those of its account do
stay-push : (e ps : List Posting) (p : Posting)
    → stay_in_range e (ps ++ p ∷ []) ≡ (stay_in_range e ps && are_in_range (balance ((e ++ ps) ++ p ∷ []) p.account))
unfolding stay_in_range
stay-push e [] p = and_true (are_in_range (balance (e ++ p ∷ []) p.account)) ∙ ap (λ l. are_in_range (balance (l ++ p ∷ []) p.account)) (sym (append-nil e))
stay-push e (q ∷ qs) p =
    ap (λ b. are_in_range (balance (e ++ q ∷ []) q.account) && b) (stay-push (e ++ q ∷ []) qs p
    ∙ ap (λ l. stay_in_range (e ++ q ∷ []) qs && are_in_range (balance (l ++ p ∷ []) p.account)) (append_assoc e (q ∷ []) qs))
    ∙ and_assoc (are_in_range (balance (e ++ q ∷ []) q.account)) (stay_in_range (e ++ q ∷ []) qs)
    (are_in_range (balance ((e ++ q ∷ qs) ++ p ∷ []) p.account))

sum-push : {X : Type 0} (f : X → ℤ) (xs : List X) (x : X) → int_sum_by f (xs ++ x ∷ []) ≡ int_sum_by f xs +ℤ f x
sum-push f xs x = int_sum_by-append f xs (x ∷ []) ∙ ap (λ n. int_sum_by f xs +ℤ n) (add-zero (f x))

sums_of-push : (ps : List Posting) (p : Posting) → sums_of (ps ++ p ∷ []) ≡ plus (sums_of ps) p.sums
sums_of-push ps p i = record {
  usages = sum-push (λ p. p.sums.usages) ps p i;
  amount = sum-push (λ p. p.sums.amount) ps p i;
  claimed = sum-push (λ p. p.sums.claimed) ps p i;
  unclaimed = sum-push (λ p. p.sums.unclaimed) ps p i;
}

-- the sums of an account with one more posting to it
pub balance-own : (ps : List Posting) (p : Posting) (a : Account) → account_eq a p.account ≡ true → balance (ps ++ p ∷ []) a ≡ plus (balance ps a) p.sums
balance-own ps p a own =
    ap sums_of (filter-append (λ q. account_eq a q.account) ps (p ∷ []) ∙ ap (λ b. posted_to a ps ++ cond b (p ∷ []) []) own)
    ∙ sums_of-push (posted_to a ps) p

-- and those of another account
pub balance-other : (ps : List Posting) (p : Posting) (a : Account) → account_eq a p.account ≡ false → balance (ps ++ p ∷ []) a ≡ balance ps a
balance-other ps p a other =
    ap sums_of (filter-append (λ q. account_eq a q.account) ps (p ∷ []) ∙ ap (λ b. posted_to a ps ++ cond b (p ∷ []) []) other
    ∙ append-nil (posted_to a ps))

posted-push : (ps : List Posting) (p : Posting) (a : Account) → is_posted_to (ps ++ p ∷ []) a ≡ (is_posted_to ps a || (account_eq a p.account || false))
posted-push ps p a = list_any-append (λ q. account_eq a q.account) ps (p ∷ [])

or_true : (a : Bool) → (a || true) ≡ true
or_true true = refl
or_true false = refl

or_false : (a : Bool) → (a || false) ≡ a
or_false true = refl
or_false false = refl

-- nothing passes a test that no item passes
none_pass : {X : Type 0} (t : X → Bool) (xs : List X) → list_any t xs ≡ false → filter t xs ≡ []
none_pass t [] e = refl
none_pass t (x ∷ xs) e = by (none_pass t xs) (t x) refl
  where
    by : (list_any t xs ≡ false → filter t xs ≡ []) → (b : Bool) → t x ≡ b → filter t (x ∷ xs) ≡ []
    by more true h = absurd (true≢false (sym (ap (λ b. b || list_any t xs) h) ∙ e))
    by more false h = ap (λ b. cond b (x ∷ filter t xs) (filter t xs)) h ∙ more (sym (ap (λ b. b || list_any t xs) h) ∙ e)

-- the entry of an account, or no sums, is its balance
entry_is : (ps : List Posting) (a : Account) → unwrap_or (entry_of ps a) zero_sums ≡ balance ps a
entry_is ps a = by (is_posted_to ps a) refl
  where
    by : (b : Bool) → is_posted_to ps a ≡ b → unwrap_or (entry_of ps a) zero_sums ≡ balance ps a
    by true h = ap (λ b. unwrap_or (cond b (Some (balance ps a)) None) zero_sums) h
    by false h =
        ap (λ b. unwrap_or (cond b (Some (balance ps a)) None) zero_sums) h
        ∙ sym (ap sums_of (none_pass (λ q. account_eq a q.account) ps h))

module _ (old new : Book) (a : Account) (n : Sums) (ps : List Posting) (held : HoldsPostings old ps) where
  abbrev one : Posting
  one = record { account = a; sums = n }

  -- a book with a sum out of range stays one
  pub left-push : old.in_range ≡ false → new.in_range ≡ false → HoldsPostings new (ps ++ one ∷ [])
  left-push out still =
      let same : are_summable (ps ++ one ∷ []) ≡ false =
      stay-push [] ps one ∙ ap (λ b. b && are_in_range (balance (ps ++ one ∷ []) a)) (sym held.range ∙ out) in
      record { range = still ∙ sym same; sums = λ h. absurd (true≢false (sym h ∙ same)) }

  module _ (sound : old.in_range ≡ true) (posted : IsPosted old new a n) where
    whole : are_summable ps ≡ true
    whole = sym held.range ∙ sound

    own : account_eq a a ≡ true
    own = (same_account a a).1 refl

    was : sums_in old a ≡ balance ps a
    was = ap (λ o. unwrap_or o zero_sums) (held.sums whole a) ∙ entry_is ps a

    now : balance (ps ++ one ∷ []) a ≡ plus (sums_in old a) n
    now = balance-own ps one a own ∙ ap (λ s. plus s n) (sym was)

    stays : are_summable (ps ++ one ∷ []) ≡ are_in_range (plus (sums_in old a) n)
    stays = stay-push [] ps one ∙ (λ i. whole i && are_in_range (now i))

    entry : (q : Account) → cond (account_eq a q) (Some (plus (sums_in old a) n)) (get account_eq old.sums q) ≡ entry_of (ps ++ one ∷ []) q
    entry q = by (account_eq q a) refl
      where
        by : (b : Bool) → account_eq q a ≡ b
            → cond (account_eq a q) (Some (plus (sums_in old a) n)) (get account_eq old.sums q) ≡ entry_of (ps ++ one ∷ []) q
        by true h =
            let e : q ≡ a = (same_account q a).0 h in
            ap (λ b. cond b (Some (plus (sums_in old a) n)) (get account_eq old.sums q)) ((same_account a q).1 (sym e))
            ∙ ap Some (sym now ∙ ap (balance (ps ++ one ∷ [])) (sym e))
            ∙ sym (ap (λ b. cond b (Some (balance (ps ++ one ∷ []) q)) None) (posted-push ps one q ∙ ap (λ b. is_posted_to ps q || (b || false)) h ∙ or_true (is_posted_to ps q)))
        by false h =
            ap (λ b. cond b (Some (plus (sums_in old a) n)) (get account_eq old.sums q)) (flipped h) ∙ held.sums whole q
            ∙ ap (λ s. cond (is_posted_to ps q) (Some s) None) (sym (balance-other ps one q h))
            ∙ ap (λ b. cond b (Some (balance (ps ++ one ∷ []) q)) None) same
          where
            flipped : account_eq q a ≡ false → account_eq a q ≡ false
            flipped f = grind (arith, same_account q a, same_account a q)

            same : is_posted_to ps q ≡ is_posted_to (ps ++ one ∷ []) q
            same = sym (posted-push ps one q ∙ ap (λ b. is_posted_to ps q || (b || false)) h ∙ or_false (is_posted_to ps q))

    -- a book with one more posting holds it too
    pub posted-push_book : HoldsPostings new (ps ++ one ∷ [])
    posted-push_book = record {
      range = posted.range ∙ sym stays;
      sums = λ h q. posted.added (sym stays ∙ h) q ∙ entry q;
    }
