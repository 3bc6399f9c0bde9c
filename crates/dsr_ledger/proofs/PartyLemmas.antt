-- The sums by party, and how large they are.
use Rattle.dsr_ledger.proofs.Common.{list_any_none, All-from_recursion, Contains-get_or, recursion_from_All, eq_by_cmp_equiv, list_any-from_Contains, ◌≡◌, ℕ, ◌+◌, ◌^◌, ◌<◌, ◌≤◌, zero, suc, take, get_or, List, [], ◌∷◌, length, Bool, true, false, cond, refl, subst, sym, ◌∙◌, ap, arith, ℤ, pos, nat_lt, ◌+ℤ◌, ◌-ℤ◌, ◌||◌, filter, map, sum_by, unsigned_abs, list_any, IsDistinct, AllByRecursion, keys_of, eq_by_cmp, bytes_eq, nat_list_cmp_total, nat_list_eq_equiv, texts_ties, ints, fits_signed_from_abs, w128, FitsSigned, sum_by-cons, sum_by-le-sum_by, sum_by_more_le, IsDistinct-from_sorted, exact_bytes, PartyLine, int_sum_by, text_cmp, in_order, Booking, Part, rounded, parts_of, all_parts, is_for, party_amount, unclaimed, amount_sum, party_lines, IsSmall, AreSmall, parts_size}
use Rattle.dsr_ledger.proofs.EachLemmas.{int_sum_by-append, zero-add, abs-sum, abs-int_sum_by, contains_map, each_weaker, some_pass}
use Rattle.dsr_ledger.proofs.TextLemmas.{same_text}
use Rattle.dsr_ledger.proofs.TallyLemmas.{small_parts}
use Rattle.dsr_ledger.proofs.OrderLemmas.{any-in_order, mapped_in_order, sorted_in_order}

sum_zero : {X : Type 0} (xs : List X) → int_sum_by (λ _. pos 0) xs ≡ pos 0
sum_zero [] = refl
sum_zero (x ∷ xs) = zero-add _ ∙ sum_zero xs

sum-map : {X Y : Type 0} (f : Y → ℤ) (g : X → Y) (xs : List X) → int_sum_by f (map g xs) ≡ int_sum_by (λ x. f (g x)) xs
sum-map f g [] = refl
sum-map f g (x ∷ xs) = ap (λ z. f (g x) +ℤ z) (sum-map f g xs)

module _ (f : Part → ℤ) where
  abbrev sum_at : List Part → List ℕ → ℤ
  sum_at ps n = int_sum_by f (filter (is_for n) ps)

  -- one more part adds to the sum of its party, if that is one of the names
  one_more : (q : Part) (ps : List Part) (names : List (List ℕ)) → IsDistinct bytes_eq names
      → int_sum_by (sum_at (q ∷ ps)) names ≡ cond (list_any (bytes_eq q.party) names) (f q) (pos 0) +ℤ int_sum_by (sum_at ps) names
  unfolding IsDistinct
  one_more q ps [] distinct = refl
  one_more q ps (n ∷ names) distinct =
      let rest = one_more q ps names distinct.1 in
      elim (bytes_eq q.party n) as (λ b. bytes_eq q.party n ≡ b
      → (int_sum_by f (cond b (q ∷ filter (is_for n) ps) (filter (is_for n) ps)) +ℤ int_sum_by (sum_at (q ∷ ps)) names)
      ≡ (cond (b || list_any (bytes_eq q.party) names) (f q) (pos 0) +ℤ (sum_at ps n +ℤ int_sum_by (sum_at ps) names))) [
        | true ↦ λ same.
            let none : list_any (bytes_eq q.party) names ≡ false =
            list_any_none (bytes_eq q.party) names (All-from_recursion (λ m. bytes_eq q.party m ≡ false) names (
            subst (λ m. AllByRecursion (λ y. bytes_eq m y ≡ false) names) (sym (same_text q.party n same)) distinct.0)) in
            let other = rest ∙ ap (λ b. cond b (f q) (pos 0) +ℤ int_sum_by (sum_at ps) names) none in
            omega (arith, ints)
        | false ↦ λ _. omega (arith, ints)
      ] refl

  -- the sums by party, added up, are the sum of all parts
  by_party : (names : List (List ℕ)) → IsDistinct bytes_eq names → (ps : List Part) → AllByRecursion (λ q. list_any (bytes_eq q.party) names ≡ true) ps
      → int_sum_by (sum_at ps) names ≡ int_sum_by f ps
  by_party names distinct [] among = sum_zero names
  by_party names distinct (q ∷ ps) among =
      one_more q ps names distinct ∙ (λ i. cond (among.0 i) (f q) (pos 0) +ℤ by_party names distinct ps among.1 i)

-- all parts and what is left over
pub parts_and_rest : (bs : List Booking) → int_sum_by rounded (all_parts bs) +ℤ unclaimed bs ≡ amount_sum bs
parts_and_rest [] = refl
parts_and_rest (b ∷ bs) = omega (arith, ints, parts_and_rest bs, int_sum_by-append rounded (parts_of b) (all_parts bs))

-- the names of the parties, in their order
abbrev pub names_of : List Booking → List (List ℕ)
names_of bs = keys_of (in_order text_cmp (party_amount bs) (map (λ q. q.party) (all_parts bs)))

pub names_distinct : (bs : List Booking) → IsDistinct bytes_eq (names_of bs)
names_distinct bs =
    subst (λ (eq : List ℕ → List ℕ → Bool). IsDistinct eq (names_of bs)) (λ i x y. sym (texts_ties x y) i) (
    IsDistinct-from_sorted text_cmp (names_of bs)
    (sorted_in_order text_cmp nat_list_cmp_total exact_bytes (party_amount bs) (map (λ q. q.party) (all_parts bs))))

any_same : (q : List ℕ) (names : List (List ℕ)) → list_any (bytes_eq q) names ≡ list_any (eq_by_cmp text_cmp q) names
any_same q names = λ i. list_any (λ n. texts_ties q n i) names

-- each party that has a part is named
names_cover : (bs : List Booking) → AllByRecursion (λ q. list_any (bytes_eq q.party) (names_of bs) ≡ true) (all_parts bs)
names_cover bs =
    let ps = all_parts bs in let parties = map (λ q. q.party) ps in
    recursion_from_All (λ q. list_any (bytes_eq q.party) (names_of bs) ≡ true) ps (λ i d below.
    let q = get_or ps i d in
    any_same q.party (names_of bs) ∙ any-in_order text_cmp nat_list_cmp_total exact_bytes (party_amount bs) parties q.party
    ∙ list_any-from_Contains (eq_by_cmp_equiv nat_list_cmp_total) q.party parties (contains_map (λ x. x.party) ps q (Contains-get_or ps i d below)))

-- a line for each name
pub lines_are : (bs : List Booking) → party_lines bs ≡ map (λ n. record { party = n; amount = party_amount bs n }) (names_of bs)
unfolding party_lines
lines_are bs = mapped_in_order text_cmp nat_list_cmp_total exact_bytes (party_amount bs) (map (λ q. q.party) (all_parts bs)) _

-- the amounts of the parties and what is unclaimed add up to the amount
pub shares_conserved : (bs : List Booking) → int_sum_by (λ p. p.amount) (party_lines bs) +ℤ unclaimed bs ≡ amount_sum bs
shares_conserved bs =
    ap (λ a. a +ℤ unclaimed bs) (ap (int_sum_by (λ p. p.amount)) (lines_are bs)
    ∙ sum-map (λ p. p.amount) (λ n. record { party = n; amount = party_amount bs n }) (names_of bs)
    ∙ by_party rounded (names_of bs) (names_distinct bs) (all_parts bs) (names_cover bs))
    ∙ parts_and_rest bs

pub unclaimed_is : (bs : List Booking) → amount_sum bs -ℤ int_sum_by (λ p. p.amount) (party_lines bs) ≡ unclaimed bs
unclaimed_is bs = let h = shares_conserved bs in omega (arith, ints)

as_int : {X : Type 0} (f : X → ℕ) (xs : List X) → pos (sum_by f xs) ≡ int_sum_by (λ x. pos (f x)) xs
as_int f [] = refl
as_int f (x ∷ xs) = let rest = as_int f xs in let cut = sum_by-cons f x xs in omega (arith, ints)

-- how far the sums by party are from zero
sizes : (bs : List Booking) → sum_by (λ p. unsigned_abs p.amount) (party_lines bs) ≤ parts_size (all_parts bs)
sizes bs =
    let ps = all_parts bs in let names = names_of bs in let size = λ (p : Part). unsigned_abs (rounded p) in
    let by : List ℕ → ℕ = λ n. parts_size (filter (is_for n) ps) in
    let less = sum_by-le-sum_by (λ n. unsigned_abs (party_amount bs n)) by names (λ n. abs-sum rounded (filter (is_for n) ps)) in
    let all : pos (sum_by by names) ≡ pos (parts_size ps) =
    as_int by names ∙ (λ i. int_sum_by (λ n. as_int size (filter (is_for n) ps) i) names)
    ∙ by_party (λ p. pos (size p)) names (names_distinct bs) ps (names_cover bs) ∙ sym (as_int size ps) in
    let is : pos (sum_by (λ p. unsigned_abs p.amount) (party_lines bs)) ≡ pos (sum_by (λ n. unsigned_abs (party_amount bs n)) names) =
    as_int _ (party_lines bs) ∙ ap (int_sum_by (λ p. pos (unsigned_abs p.amount))) (lines_are bs)
    ∙ sum-map (λ p. pos (unsigned_abs p.amount)) (λ n. record { party = n; amount = party_amount bs n }) names ∙ sym (as_int _ names) in
    omega (arith, ints)

-- subtracting the parties' amounts one by one does not overflow
pub line_fits : (bs : List Booking) → AreSmall bs → unsigned_abs (amount_sum bs) + sum_by (λ p. unsigned_abs p.amount) (party_lines bs) < 2 ^ 127
line_fits bs h =
    let amount = abs-int_sum_by (λ (b : Booking). b.usage.amount) (10 ^ 22) bs (each_weaker IsSmall _ (λ b s. omega (arith, s.0.amount)) bs h.each) in
    omega (arith, h.few, small_parts bs h.each, sizes bs)

-- the sum of the first lines and one more
pub taken_more : (ps : List PartyLine) (i : ℕ) (p : PartyLine) → i < length ps → p ≡ get_or ps i p
    → int_sum_by (λ x. x.amount) (take (suc i) ps) ≡ int_sum_by (λ x. x.amount) (take i ps) +ℤ p.amount
taken_more [] i p below is = absurd (omega arith)
taken_more (x ∷ ps) zero p below is = let e = ap (λ y. y.amount) is in omega (arith, ints)
taken_more (x ∷ ps) (suc i) p below is = let rest = taken_more ps i p (omega arith) is in omega (arith, ints)

taken_size : (ps : List PartyLine) (i : ℕ) (p : PartyLine) → i < length ps → p ≡ get_or ps i p
    → unsigned_abs (int_sum_by (λ x. x.amount) (take i ps)) + unsigned_abs p.amount ≤ sum_by (λ x. unsigned_abs x.amount) ps
taken_size ps i p below is =
    let e = ap (λ y. unsigned_abs y.amount) is in
    omega (arith, abs-sum (λ (x : PartyLine). x.amount) (take i ps), sum_by_more_le (λ (x : PartyLine). unsigned_abs x.amount) ps i p below)

-- an amount minus the parties' amounts
pub left_fits : (a : ℤ) (ps : List PartyLine) (i : ℕ) (p : PartyLine) (left : ℤ) → left ≡ a -ℤ int_sum_by (λ x. x.amount) (take i ps) → i < length ps
    → p ≡ get_or ps i p → unsigned_abs a + sum_by (λ x. unsigned_abs x.amount) ps < 2 ^ 127 → FitsSigned w128 (left -ℤ p.amount)
left_fits a ps i p left was below is room = fits_signed_from_abs w128 (left -ℤ p.amount) (omega (arith, ints, taken_size ps i p below is))

pub amount_fits : (ps : List PartyLine) (i : ℕ) (p : PartyLine) (a : ℤ) → i < length ps → p ≡ get_or ps i p
    → unsigned_abs a + sum_by (λ x. unsigned_abs x.amount) ps < 2 ^ 127 → FitsSigned w128 p.amount
amount_fits ps i p a below is room = fits_signed_from_abs w128 p.amount (omega (arith, taken_size ps i p below is))

-- a party has a part if it is among the parts' parties
pub some_for : (q : List ℕ) (ps : List Part) → nat_lt 0 (length (filter (is_for q) ps)) ≡ list_any (eq_by_cmp text_cmp q) (map (λ p. p.party) ps)
some_for q = some_pass (is_for q) (eq_by_cmp text_cmp q) (λ p. p.party) (λ p. nat_list_eq_equiv.symm p.party q ∙ texts_ties q p.party)
