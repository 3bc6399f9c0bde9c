-- The states of summaries, usage by usage.
use Rattle.dsr_ledger.proofs.Common.{Bool, ◌≡◌, ℕ, List, [], ◌∷◌, true, false, cond, true≢false, refl, sym, ◌∙◌, ap, ◌+◌, ◌^◌, ◌≤◌, ◌++◌, length, subst, arith, ints, ℤ, ◌+ℤ◌, Option, None, Some, is_some, option_map, bytes_eq, nat_list_eq_equiv, cond_both, Usage, Summaries, SummaryState, int_sum_by, state_at, state_plus, state_with, index_at, is_known, sums_with, StateFits, some_index, ForSome, AllByRecursion, filter-append, Sums, naming, IsInRange, SumsFit}
use Rattle.dsr_ledger.proofs.TextLemmas.{same_text}
use Rattle.dsr_ledger.proofs.EachLemmas.{add-zero, int_sum_by-append, abs-int_sum_by, add-assoc, each_filter, each_weaker, fewer}

pub is_some-map : {A B : Type 0} (f : A → B) (o : Option A) → is_some (option_map f o) ≡ is_some o
is_some-map f None = refl
is_some-map f (Some x) = refl

-- each summary that has a number has a state
pub is_some_state : (summaries : Summaries) (id : List ℕ) → is_some (state_at summaries id) ≡ is_known summaries id
is_some_state summaries id = sym (some_index (bytes_eq id) summaries.states.entries)

-- after a usage was added to the summary that it names, and to no other
pub counted : (id : List ℕ) (u : Usage) (s : Option SummaryState) → cond (bytes_eq u.summary_id id) (option_map (state_plus u) s) s
    ≡ option_map (state_with id (u ∷ [])) s
counted id u None = cond_both (bytes_eq u.summary_id id) None None (λ x. x ≡ None) (λ _. refl) (λ _. refl)
counted id u (Some s) =
    let n = s.sums in let us : Bool → List Usage = λ b. cond b (u ∷ []) [] in
    ap (λ b. cond b (Some (state_plus u s)) (Some s)) (nat_list_eq_equiv.symm u.summary_id id)
    ∙ elim (bytes_eq id u.summary_id) as (λ b. cond b (Some (state_plus u s)) (Some s)
    ≡ Some (record s { sums = record { usages = n.usages +ℤ int_sum_by (λ x. x.usages) (us b); amount = n.amount +ℤ int_sum_by (λ x. x.amount) (us b) } })) [
      | true ↦ λ i. Some (record s { sums = record { usages = n.usages +ℤ sym (add-zero u.usages) i; amount = n.amount +ℤ sym (add-zero u.amount) i } })
      | false ↦ λ i. Some (record s { sums = record { usages = sym (add-zero n.usages) i; amount = sym (add-zero n.amount) i } })
    ]

not_there : {X : Type 0} (o : Option X) → is_some o ≡ false → o ≡ None
not_there None e = refl
not_there (Some x) e = absurd (true≢false e)

-- a usage that names no summary adds nothing
pub uncounted : (summaries : Summaries) (u : Usage) → index_at summaries u.summary_id ≡ None → (id : List ℕ)
    → state_at summaries id ≡ option_map (state_with id (u ∷ [])) (state_at summaries id)
uncounted summaries u absent id =
    let o = state_at summaries id in
    cond_both (bytes_eq u.summary_id id) (option_map (state_plus u) o) o (λ x. o ≡ x) (λ e.
    let none = ap (state_at summaries) (sym (same_text u.summary_id id e)) ∙ not_there _ (is_some_state summaries u.summary_id ∙ ap is_some absent) in
    none ∙ sym (ap (option_map (state_plus u)) none)) (λ _. refl)
    ∙ counted id u o

pub sums_with-append : (id : List ℕ) (us vs : List Usage) (s : Sums) → sums_with id vs (sums_with id us s) ≡ sums_with id (us ++ vs) s
sums_with-append id us vs s = λ i. record { usages = more (λ u. u.usages) s.usages i; amount = more (λ u. u.amount) s.amount i }
  where
    more : (f : Usage → ℤ) (n : ℤ) → (n +ℤ int_sum_by f (naming id us)) +ℤ int_sum_by f (naming id vs) ≡ n +ℤ int_sum_by f (naming id (us ++ vs))
    more f n =
        add-assoc n (int_sum_by f (naming id us)) (int_sum_by f (naming id vs))
        ∙ ap (λ z. n +ℤ z) (sym (ap (int_sum_by f) (filter-append (λ u. bytes_eq id u.summary_id) us vs)
        ∙ int_sum_by-append f (naming id us) (naming id vs)))

-- after one more usage
pub states_more : (id : List ℕ) (us : List Usage) (u : Usage) (o p q : Option SummaryState) → p ≡ option_map (state_with id us) o
    → q ≡ option_map (state_with id (u ∷ [])) p → q ≡ option_map (state_with id (us ++ u ∷ [])) o
states_more id us u o p q was is = is ∙ ap (option_map (state_with id (u ∷ []))) was ∙ both o
  where
    both : (o : Option SummaryState) → option_map (state_with id (u ∷ [])) (option_map (state_with id us) o) ≡ option_map (state_with id (us ++ u ∷ [])) o
    both None = refl
    both (Some s) = λ i. Some (record { key = s.key; sums = sums_with-append id us (u ∷ []) s.sums i })

pub sums_fit_after : (id : List ℕ) (us : List Usage) (s : Sums) (n m : ℕ) → length us + m ≤ n → AllByRecursion IsInRange us → SumsFit n s
    → SumsFit m (sums_with id us s)
sums_fit_after id us s n m room small h =
    let own = naming id us in let less = fewer (λ (x : Usage). bytes_eq id x.summary_id) us in
    let kept = each_filter IsInRange (λ (x : Usage). bytes_eq id x.summary_id) us small in
    let u = abs-int_sum_by (λ (x : Usage). x.usages) (2 ^ 63) own (each_weaker IsInRange _ (λ x r. r.usages) own kept) in
    let a = abs-int_sum_by (λ (x : Usage). x.amount) (10 ^ 22) own (each_weaker IsInRange _ (λ x r. let y = r.amount in omega arith) own kept) in
    record { usages = omega (arith, ints, h.usages); amount = omega (arith, ints, h.amount) }

pub states_fit_at : (o : Option SummaryState) (id : List ℕ) (us : List Usage) (n m : ℕ) → length us + m ≤ n → AllByRecursion IsInRange us
    → ForSome o (StateFits n) → ForSome (option_map (state_with id us) o) (StateFits m)
states_fit_at None id us n m room small h = λ x e. absurd (cc)
states_fit_at (Some s) id us n m room small h = λ x e.
    let is : state_with id us s ≡ x = cc in
    subst (StateFits m) is (sums_fit_after id us s.sums n m room small (h s refl))

-- the sums, and the number of the key, of a state with added usages
pub sums_after : (id : List ℕ) (us : List Usage) (o : Option SummaryState)
    → option_map (λ s. s.sums) (option_map (state_with id us) o) ≡ option_map (sums_with id us) (option_map (λ s. s.sums) o)
sums_after id us None = refl
sums_after id us (Some s) = refl

pub same_number : (id : List ℕ) (us : List Usage) (o : Option SummaryState)
    → option_map (λ s. s.key) (option_map (state_with id us) o) ≡ option_map (λ s. s.key) o
same_number id us None = refl
same_number id us (Some s) = refl
