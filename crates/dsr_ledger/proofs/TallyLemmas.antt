-- The parts of bookings, what parties are owed, and the tallies of concatenated bookings.
use Rattle.dsr_ledger.proofs.Common.{ℕ, ◌*◌, ◌^◌, ◌≤◌, List, [], ◌∷◌, length, ap, arith, ◌≡◌, suc, ◌+◌, ◌<◌, ◌++◌, true, false, cond, refl, sym, ◌∙◌, subst, append-nil, ℤ, pos, negsuc, ◌*ℤ◌, sum, map, unsigned_abs, ◌≤ℤ◌, ◌+ℤ◌, ◌||◌, nat_lt, filter, not, Option, Some, int_div, FitsSigned, zip, flat_map, AllByRecursion, ints, unsigned_abs-mul, fits_signed_from_abs, sum_by-cons, sum_by-append, WorkParts, share_total, Booking, key_under, booked_under, usage_bookings, IsSmall, Part, rounded, part_of, work_parts, parts_of, all_parts, unclaimed, is_for, parts_size, Owed, owed_of, owed_for, owed_plus, owed_with, flat_map_more, w128, lt-ltb, filter-append, flat_map-append, Usage, Key, key_eq, SummaryKey, is_at_key, at_key, Tally, tally_of, key_tally, tally_plus, tally_with, TallyFits, Sums, SumsFit}
use Rattle.std.proofs.Math.Nat.{mul-le-mul_left}
use Rattle.dsr_ledger.proofs.EachLemmas.{abs-sum, int_sum_by-append, add-assoc, add-zero, abs-int_sum_by, each_filter, each_weaker, fewer}
use Rattle.std.proofs.Math.Bool.{or-false, or-true, or_assoc}
use Rattle.std.proofs.lemmas.List.Filters.{sum_by-filter_both}

-- a quotient is no further from zero than the number
quotient_size : (z : ℤ) → unsigned_abs (int_div z (pos 1000000)) * 1000000 ≤ unsigned_abs z
quotient_size (pos n) = omega (arith, ints)
quotient_size (negsuc n) = omega (arith, ints)

-- the parts of a work are no more than the amount times its shares
zip_size : (a : ℤ) (parties : List (List ℕ)) (shares : List ℕ) → parts_size (map (part_of a) (zip parties shares)) * 1000000 ≤ unsigned_abs a * sum shares
zip_size a [] shares = omega arith
zip_size a (p ∷ parties) [] = omega arith
zip_size a (p ∷ parties) (s ∷ shares) =
    let cut = sum_by-cons (λ (x : Part). unsigned_abs (rounded x)) (part_of a (p, s)) (map (part_of a) (zip parties shares)) in
    let total = ap (λ n. unsigned_abs a * n) (sum_by-cons (λ x. x) s shares) in
    omega (arith, quotient_size (a *ℤ pos s), unsigned_abs-mul a (pos s), zip_size a parties shares)

works_size : (a : ℤ) (works : List WorkParts) → parts_size (flat_map (work_parts a) works) * 1000000 ≤ unsigned_abs a * share_total works
works_size a [] = omega arith
works_size a (w ∷ works) =
    let cut = sum_by-append (λ (x : Part). unsigned_abs (rounded x)) (work_parts a w) (flat_map (work_parts a) works) in
    let total = ap (λ n. unsigned_abs a * n) (sum_by-cons (λ (x : WorkParts). sum x.shares) w works) in
    omega (arith, zip_size a w.parties w.shares, works_size a works)

-- so if the shares are at most 100 percent, the parts are no more than the amount
pub parts_within : (a : ℤ) (works : List WorkParts) → share_total works ≤ 1000000 → parts_size (flat_map (work_parts a) works) ≤ unsigned_abs a
parts_within a works whole = omega (arith, works_size a works, mul-le-mul_left (unsigned_abs a) whole)

-- the parts of small bookings
pub small_parts : (bs : List Booking) → AllByRecursion IsSmall bs → parts_size (all_parts bs) ≤ length bs * 10 ^ 22
small_parts [] h = omega arith
small_parts (b ∷ bs) h =
    let cut = sum_by-append (λ (x : Part). unsigned_abs (rounded x)) (parts_of b) (all_parts bs) in
    omega (arith, small_parts bs h.1, parts_within b.usage.amount b.works h.0.1, h.0.0.amount)

-- no more is claimed than amounts that are not negative
pub unclaimed_not_negative : (bs : List Booking) → AllByRecursion (λ b. pos 0 ≤ℤ b.usage.amount) bs → AllByRecursion (λ b. share_total b.works ≤ 1000000) bs
    → pos 0 ≤ℤ unclaimed bs
unclaimed_not_negative [] h k = omega (arith, ints)
unclaimed_not_negative (b ∷ bs) h k =
    omega (arith, ints, abs-sum rounded (parts_of b), parts_within b.usage.amount b.works k.0, h.0, unclaimed_not_negative bs h.1 k.1)

pub owed_plus-assoc : (a b c : Owed) → owed_plus (owed_plus a b) c ≡ owed_plus a (owed_plus b c)
owed_plus-assoc a b c = λ i. record { has_part = or_assoc a.has_part b.has_part c.has_part i; amount = add-assoc a.amount b.amount c.amount i }

pub owed_plus-none : (o : Owed) → owed_plus o (owed_of []) ≡ o
owed_plus-none o = λ i. record { has_part = or-false o.has_part i; amount = add-zero o.amount i }

pub any_of : {X : Type 0} (xs ys : List X) → nat_lt 0 (length (xs ++ ys)) ≡ (nat_lt 0 (length xs) || nat_lt 0 (length ys))
any_of [] ys = refl
any_of (x ∷ xs) ys = lt-ltb 0 (suc (length (xs ++ ys))) (omega arith) ∙ ap (λ b. b || nat_lt 0 (length ys)) (sym (lt-ltb 0 (suc (length xs)) (omega arith)))

owed_of-append : (xs ys : List Part) → owed_of (xs ++ ys) ≡ owed_plus (owed_of xs) (owed_of ys)
owed_of-append xs ys = λ i. record { has_part = any_of xs ys i; amount = int_sum_by-append rounded xs ys i }

pub owed_for-append : (q : List ℕ) (xs ys : List Part) → owed_for q (xs ++ ys) ≡ owed_plus (owed_for q xs) (owed_for q ys)
owed_for-append q xs ys = ap owed_of (filter-append (is_for q) xs ys) ∙ owed_of-append (filter (is_for q) xs) (filter (is_for q) ys)

one_more : (o : Owed) (q : List ℕ) (x : Part) → cond (is_for q x) (owed_with (rounded x) o) o ≡ owed_plus o (owed_for q (x ∷ []))
one_more o q x =
    elim (is_for q x) as (λ b. cond b (owed_with (rounded x) o) o ≡ owed_plus o (owed_of (cond b (x ∷ []) []))) [
      | true ↦ λ i. record { has_part = sym (or-true o.has_part) i; amount = o.amount +ℤ sym (add-zero (rounded x)) i }
      | false ↦ sym (owed_plus-none o)
    ]

-- what a party is owed after one more part
pub owed_more : (o n old : Owed) (q : List ℕ) (ps : List Part) (x : Part) → o ≡ owed_plus old (owed_for q ps)
    → n ≡ cond (is_for q x) (owed_with (rounded x) o) o → n ≡ owed_plus old (owed_for q (ps ++ x ∷ []))
owed_more o n old q ps x was is =
    is ∙ one_more o q x ∙ ap (λ y. owed_plus y (owed_for q (x ∷ []))) was ∙ owed_plus-assoc old (owed_for q ps) (owed_for q (x ∷ []))
    ∙ ap (owed_plus old) (sym (owed_for-append q ps (x ∷ [])))

pub size_of : (q : List ℕ) (ps : List Part) → unsigned_abs (owed_for q ps).amount ≤ parts_size ps
size_of q ps =
    let both = sum_by-filter_both (is_for q) (λ x. not (is_for q x)) (λ x. refl) (λ (x : Part). unsigned_abs (rounded x)) ps in
    omega (arith, abs-sum rounded (filter (is_for q) ps))

-- a part fits
pub part_fits : (o old : Owed) (q : List ℕ) (ps : List Part) (a : ℤ) (n : ℕ) → o ≡ owed_plus old (owed_for q ps) → parts_size ps + unsigned_abs a ≤ n
    → unsigned_abs old.amount + n < 2 ^ 127 → FitsSigned w128 (o.amount +ℤ a)
part_fits o old q ps a n is within room =
    subst (λ y. FitsSigned w128 (y.amount +ℤ a)) (sym is)
    (fits_signed_from_abs w128 ((old.amount +ℤ (owed_for q ps).amount) +ℤ a) (omega (arith, ints, size_of q ps)))

pub tally_plus-assoc : (a b c : Tally) → tally_plus (tally_plus a b) c ≡ tally_plus a (tally_plus b c)
tally_plus-assoc a b c = λ i. record {
  is_booked = or_assoc a.is_booked b.is_booked c.is_booked i;
  usages = add-assoc a.usages b.usages c.usages i;
  amount = add-assoc a.amount b.amount c.amount i;
  owed = λ q. owed_plus-assoc (a.owed q) (b.owed q) (c.owed q) i;
}

pub tally_plus-none : (t : Tally) → t ≡ tally_plus t (tally_of [])
tally_plus-none t = λ i. record {
  is_booked = sym (or-false t.is_booked) i;
  usages = sym (add-zero t.usages) i;
  amount = sym (add-zero t.amount) i;
  owed = λ q. sym (owed_plus-none (t.owed q)) i;
}

pub tally_of-append : (xs ys : List Booking) → tally_of (xs ++ ys) ≡ tally_plus (tally_of xs) (tally_of ys)
tally_of-append xs ys = λ i. record {
  is_booked = any_of xs ys i;
  usages = int_sum_by-append (λ b. b.usage.usages) xs ys i;
  amount = int_sum_by-append (λ b. b.usage.amount) xs ys i;
  owed = λ q. (ap (owed_for q) (flat_map-append parts_of xs ys) ∙ owed_for-append q (all_parts xs) (all_parts ys)) i;
}

pub key_tally-append : (xs ys : List Booking) (q : Key) → key_tally (xs ++ ys) q ≡ tally_plus (key_tally xs q) (key_tally ys q)
key_tally-append xs ys q = ap tally_of (filter-append (is_at_key q) xs ys) ∙ tally_of-append (at_key q xs) (at_key q ys)

-- the tally after one more usage
pub tally_more : (s t n : Tally) (place : List ℕ → Option SummaryKey) (isrc : List ℕ) (works : List WorkParts) (us : List Usage) (u : Usage) (q : Key)
    → t ≡ tally_plus s (key_tally (usage_bookings place isrc works us) q) → n ≡ tally_plus t (key_tally (booked_under isrc works u (place u.summary_id)) q)
    → n ≡ tally_plus s (key_tally (usage_bookings place isrc works (us ++ u ∷ [])) q)
tally_more s t n place isrc works us u q was is =
    let f = λ (x : Usage). booked_under isrc works x (place x.summary_id) in
    is ∙ ap (λ x. tally_plus x (key_tally (f u) q)) was ∙ tally_plus-assoc s (key_tally (flat_map f us) q) (key_tally (f u) q)
    ∙ ap (tally_plus s) (sym (key_tally-append (flat_map f us) (f u) q) ∙ ap (λ l. key_tally l q) (flat_map_more f [] us u))

-- one usage adds to the tally of its key
pub tally_with-key : (t : Tally) (isrc : List ℕ) (works : List WorkParts) (u : Usage) (p : SummaryKey) (q : Key)
    → cond (key_eq (key_under isrc p) q) (tally_with u (flat_map (work_parts u.amount) works) t) t
    ≡ tally_plus t (key_tally (booked_under isrc works u (Some p)) q)
tally_with-key t isrc works u p q =
    let b : Booking = record { key = key_under isrc p; usage = u; works = works } in let parts = flat_map (work_parts u.amount) works in
    elim (key_eq (key_under isrc p) q) as (λ x. cond x (tally_with u parts t) t ≡ tally_plus t (tally_of (cond x (b ∷ []) []))) [
      | true ↦ λ i. record {
        is_booked = sym (or-true t.is_booked) i;
        usages = t.usages +ℤ sym (add-zero u.usages) i;
        amount = t.amount +ℤ sym (add-zero u.amount) i;
        owed = λ k. owed_plus (t.owed k) (owed_for k (sym (append-nil parts) i));
      }
      | false ↦ tally_plus-none t
    ]

-- n more usages fit if m more do, after some of them
pub tally_fits_after : (t : Tally) (bs : List Booking) (q : Key) (n m : ℕ) → length bs + m ≤ n → AllByRecursion IsSmall bs → TallyFits n t
    → TallyFits m (tally_plus t (key_tally bs q))
tally_fits_after t bs q n m room small h =
    let own = at_key q bs in let less = fewer (is_at_key q) bs in let kept = each_filter IsSmall (is_at_key q) bs small in
    let su = abs-int_sum_by (λ (b : Booking). b.usage.usages) (2 ^ 63) own (each_weaker IsSmall _ (λ b s. s.0.usages) own kept) in
    let sa = abs-int_sum_by (λ (b : Booking). b.usage.amount) (10 ^ 22) own (each_weaker IsSmall _ (λ b s. let a = s.0.amount in omega arith) own kept) in
    record {
      usages = omega (arith, ints, h.usages);
      amount = omega (arith, ints, h.amount);
      owed = λ p. omega (arith, ints, h.owed p, small_parts own kept, size_of p (all_parts own));
    }

pub fewer_sums : (n m : ℕ) (s : Sums) → m ≤ n → SumsFit n s → SumsFit m s
fewer_sums n m s less h = record { usages = omega (arith, h.usages); amount = omega (arith, h.amount) }
