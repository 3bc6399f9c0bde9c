-- Items put in the order of their names, and those of them that pass a test.
use Rattle.dsr_ledger.proofs.Common.{◌≡◌, ℕ, ◌+◌, ◌<◌, ◌≤◌, Bool, None, refl, list_any, true≢false, List, [], ◌∷◌, length, get_or, nat_eq, sym, ap, ◌∙◌, subst, arith, All, Option, Some, map, option_map, slice_get, Decides, Contains, IsDistinct, IsPermutation, IsSortedBy, IsStrictlySortedBy, IsTotalOrder, keys_of, is_eq, is_lt, Ordering, nat_tests, get_or-map, length-map, All-map, All-filter, Contains-append_right, cond_both, cond, false, true, zero, suc, filter, position-Some, All-permutation, Contains-permutation, IsPermutation-map, IsDistinct-IsPermutation, IsDistinct-from_apart, apart_from_distinct, sorted_from_all_adjacent, slice_get-map, slice_get-get_or, slice_get_within, get_or_from_slice_get, map-map, place_in, place_by, AreApart, AreListed, AreDistinctBelow, numbered_by, AllPairs, All-contains_itself, filter_passes, length-le_from_distinct_below}
use Rattle.std.proofs.lemmas.List.Kept.{AllPairs-filter}
use Rattle.dsr_ledger.proofs.NumberedLemmas.{none_any, position_is, same_flips}
pub use Rattle.dsr_ledger.proofs.NumberedLemmas.{taken}

-- items with their names and values
abbrev pub entries_by : {X K V : Type 0} → (X → K) → (X → V) → List X → List (K × V)
entries_by name value xs = map (λ x. (name x, value x)) xs

-- what is at a place of a list has what all have
pub all_there : {X : Type 0} (P : X → Type 0) (xs : List X) (i : ℕ) (x : X) → All P xs → slice_get xs i ≡ Some x → P x
all_there P xs i x all at = subst P (get_or_from_slice_get xs i x x at) (all i x (slice_get_within xs i x at))

pub there : {X : Type 0} (xs : List X) (i : ℕ) (x : X) → slice_get xs i ≡ Some x → Contains xs x
there xs i x e = (i, slice_get_within xs i x e, get_or_from_slice_get xs i x x e)

pub mapped : {A B : Type 0} (f : A → B) (o : Option A) (y : B) → option_map f o ≡ Some y → (x : A) × (o ≡ Some x) × (f x ≡ y)
mapped f o y e = grind arith

-- an item that passes a test is among those that do
kept_there : {X : Type 0} (p : X → Bool) (xs : List X) (i : ℕ) (x : X) → slice_get xs i ≡ Some x → p x ≡ true → Contains (filter p xs) x
kept_there p [] i x at passes = absurd (let no = slice_get_within [] i x at in omega arith)
kept_there p (y ∷ xs) zero x at passes =
    let is = get_or_from_slice_get (y ∷ xs) 0 x x at in
    subst (λ b. Contains (cond b (y ∷ filter p xs) (filter p xs)) x) (sym (ap p is ∙ passes)) (0, omega arith, is)
kept_there p (y ∷ xs) (suc i) x at passes =
    let rest = kept_there p xs i x at passes in
    cond_both (p y) (y ∷ filter p xs) (filter p xs) (λ l. Contains l x) (λ _. Contains-append_right (y ∷ []) (filter p xs) x rest) (λ _. rest)

-- the numbers of those that pass are distinct too
pub kept_apart : {X : Type 0} (read : X → ℕ) (p : X → Bool) (xs : List X) → AreApart (map read xs) → AreApart (map read (filter p xs))
kept_apart {X} read p xs apart i n at =
    let ys = filter p xs in
    let pairs : AllPairs (λ (x y : X). nat_eq (read y) (read x) ≡ false) ys =
    AllPairs-filter (λ (x y : X). nat_eq (read y) (read x) ≡ false) p xs (λ j k d less within.
    let one = slice_get-get_or xs j d (omega (arith, less, within)) in let two = slice_get-get_or xs k d within in
    grind (
      arith,
      nat_tests,
      less,
      apart j (read (get_or xs j d)),
      apart k (read (get_or xs k d)),
      slice_get-map read xs j,
      slice_get-map read xs k,
      one,
      two,
    )) in
    let y = mapped read (slice_get ys i) n (sym (slice_get-map read ys i) ∙ at) in
    let below = slice_get_within ys i y.0 y.1 in let here = get_or_from_slice_get ys i y.0 y.0 y.1 in
    let long = length-map ys read in let each = λ (j : ℕ) (less : j < length ys). get_or-map read ys j y.0 n less in
    position_is (nat_eq n) (map read ys) i n (omega (arith, below, long))
    (grind (arith, nat_tests, each i below, here, y.2))
    (λ j less. grind (arith, nat_tests, pairs j i y.0 less below, each j (omega (arith, less, below)), here, y.2))

pub own_below : (ns : List ℕ) (n : ℕ) → AreDistinctBelow n ns → (i : ℕ) → i < length ns → get_or ns i 0 < n
own_below ns n numbers i below = numbers.below (get_or ns i 0) i (numbers.apart i (get_or ns i 0) (slice_get-get_or ns i 0 below))

-- there are at most n of them
pub few_below : (ns : List ℕ) (n : ℕ) → AreDistinctBelow n ns → length ns ≤ n
few_below ns n numbers =
    length-le_from_distinct_below ns n (IsDistinct-from_apart nat_eq ns (λ i j d less within.
    let one = slice_get-get_or ns i d (omega (arith, less, within)) in let two = slice_get-get_or ns j d within in
    grind (arith, nat_tests, less, numbers.apart i (get_or ns i d) one, numbers.apart j (get_or ns j d) two))) (λ q any. below q any (place_in ns q) refl)
  where
    below : (q : ℕ) → list_any (nat_eq q) ns ≡ true → (o : Option ℕ) → place_in ns q ≡ o → q < n
    below q any None e = absurd (true≢false (sym any ∙ none_any (nat_eq q) ns e))
    below q any (Some i) e = numbers.below q i e

-- the number of the value at a place is below n
pub below_number : {V : Type 0} (read : V → ℕ) (vs : List V) (n : ℕ) → AreDistinctBelow n (map read vs) → (i : ℕ) (v : V) → i < length vs → v ≡ get_or vs i v
    → read v < n
below_number read vs n numbers i v below is =
    omega (arith, own_below (map read vs) n numbers i (omega (arith, length-map vs read)), get_or-map read vs i v 0 below, ap read is)

-- values by the numbers of their keys
module _ {K V : Type 0} (number : K → Option ℕ) (read : V → ℕ) where
  pub own_value : (vs : List V) → AreApart (map read vs) → (i : ℕ) (v : V) (k : K) → slice_get vs i ≡ Some v → number k ≡ Some (read v)
      → numbered_by number read vs k ≡ Some v
  own_value vs numbers i v k here is = grind (arith, numbers i (read v), slice_get-map read vs i)

  pub own_place : (vs : List V) (k : K) (v : V) → numbered_by number read vs k ≡ Some v → (i : ℕ) × (slice_get vs i ≡ Some v) × (number k ≡ Some (read v))
  own_place vs k v e =
      let at = taken (slice_get vs) (place_by number (map read vs) k) v e in let n = taken (place_in (map read vs)) (number k) at.0 at.1 in
      let held = position-Some (nat_eq n.0) (map read vs) at.0 0 n.2 in
      let of = get_or_from_slice_get (map read vs) at.0 (read v) 0 (slice_get-map read vs at.0 ∙ ap (option_map read) at.2) in
      (at.0, at.2, n.1 ∙ ap Some (grind (arith, nat_tests, held)))

  -- of those that pass a test
  module _ (p : V → Bool) (vs : List V) (numbers : AreApart (map read vs)) (k : K) (v : V) where
    pub kept_in : numbered_by number read (filter p vs) k ≡ Some v → (numbered_by number read vs k ≡ Some v) × (p v ≡ true)
    kept_in e =
        let at = own_place (filter p vs) k v e in
        let c = all_there (Contains vs) (filter p vs) at.0 v (All-filter p (Contains vs) vs (All-contains_itself vs)) at.1 in (
          own_value vs numbers c.0 v k (slice_get-get_or vs c.0 v c.1 ∙ ap Some c.2) at.2,
          all_there (λ x. p x ≡ true) (filter p vs) at.0 v (filter_passes p vs) at.1,
        )

    pub kept_out : numbered_by number read vs k ≡ Some v → p v ≡ true → numbered_by number read (filter p vs) k ≡ Some v
    kept_out e passes =
        let at = own_place vs k v e in let c = kept_there p vs at.0 v at.1 passes in
        own_value (filter p vs) (kept_apart read p vs numbers) c.0 v k (slice_get-get_or (filter p vs) c.0 v c.1 ∙ ap Some c.2) at.2

module _ {K : Type 0} (eq : K → K → Bool) (decides : (a b : K) → Decides (eq a b) (a ≡ b)) {R : K → K → Ordering} (total : IsTotalOrder R)
    (ties : (a b : K) → is_eq (R a b) ≡ eq a b) {V X : Type 0} (name : X → K) (value : X → V) where
  -- items sorted by distinct names are in strict order
  strictly_sorted : (xs : List X) → IsSortedBy (λ a b. is_lt (R (name a) (name b))) xs → IsDistinct eq (map name xs) → IsStrictlySortedBy R (map name xs)
  unfolding IsStrictlySortedBy
  strictly_sorted [] sorted distinct = tt
  strictly_sorted (x ∷ xs) sorted distinct =
      let names = map name (x ∷ xs) in
      sorted_from_all_adjacent total names (name x) (λ k within.
      let at = λ (j : ℕ). get_or-map name (x ∷ xs) j x (name x) in let a = get_or names k (name x) in let b = get_or names (k + 1) (name x) in
      let long = length-map (x ∷ xs) name in let apart = apart_from_distinct eq names k (k + 1) (name x) distinct in
      grind (arith, apart, at k, at (k + 1), sorted k x, total.antisymm b a, ties a b))

  -- items with distinct names, put in order
  pub put_in_order : (at : K → Option V) (xs ys : List X) → IsDistinct eq (map name xs) → All (λ x. at (name x) ≡ Some (value x)) xs
      → ((q : K) (v : V) → at q ≡ Some v → Contains (map name xs) q) → IsPermutation xs ys → IsSortedBy (λ a b. is_lt (R (name a) (name b))) ys
      → AreListed R at (entries_by name value ys)
  put_in_order at xs ys distinct own all moved sorted =
      let es = entries_by name value ys in let names = IsPermutation-map name xs ys moved in
      let keys : keys_of es ≡ map name ys = map-map (λ (e : K × V). e.0) (λ x. (name x, value x)) ys in
      record {
        order =
            subst (IsStrictlySortedBy R) (sym keys) (
            strictly_sorted ys sorted (IsDistinct-IsPermutation eq (same_flips eq decides) (map name xs) (map name ys) names distinct));
        own = All-map (λ (e : K × V). at e.0 ≡ Some e.1) (λ x. (name x, value x)) ys (All-permutation (λ x. at (name x) ≡ Some (value x)) xs ys moved own);
        all = λ q v e. subst (λ ks. Contains ks q) (sym keys) (Contains-permutation (map name xs) (map name ys) q names (all q v e));
      }

  -- items with the numbers of their names, put in order
  module _ (number : K → Option ℕ) (apart : (a b : K) (n : ℕ) → number a ≡ Some n → number b ≡ Some n → a ≡ b) (read : V → ℕ) (vs : List V)
      (numbers : AreApart (map read vs)) where
    value_there : (zs : List X) → map value zs ≡ vs → (i : ℕ) (d : X) → i < length zs → slice_get vs i ≡ Some (value (get_or zs i d))
    value_there zs e i d below = ap (λ l. slice_get l i) (sym e) ∙ slice_get-map value zs i ∙ ap (option_map value) (slice_get-get_or zs i d below)

    pub differ : (zs : List X) → map value zs ≡ vs → All (λ x. number (name x) ≡ Some (read (value x))) zs → IsDistinct eq (map name zs)
    unfolding IsDistinct
    differ [] e h = tt
    differ (z ∷ zs) e h =
        IsDistinct-from_apart eq (map name (z ∷ zs)) (λ i j d less within.
        let long : j < length (z ∷ zs) = omega (arith, length-map (z ∷ zs) name) in let a = get_or (z ∷ zs) i z in let b = get_or (z ∷ zs) j z in
        let place = λ (k : ℕ) (below : k < length (z ∷ zs)).
        numbers k _ (slice_get-map read vs k ∙ ap (option_map read) (value_there (z ∷ zs) e k z below)) in
        let one = get_or-map name (z ∷ zs) i z d (omega arith) in let two = get_or-map name (z ∷ zs) j z d long in
        let first = h i z (omega arith) in let second = h j z long in
        grind (arith, decides (name a) (name b), place i (omega arith), place j long, λ (s : read (value a) ≡ read (value b)). ap (place_in (map read vs)) s))

    pub listed : (xs ys : List X) → map value xs ≡ vs → All (λ x. number (name x) ≡ Some (read (value x))) xs → IsPermutation xs ys
        → IsSortedBy (λ a b. is_lt (R (name a) (name b))) ys → AreListed R (numbered_by number read vs) (entries_by name value ys)
    listed xs ys all own moved sorted =
        put_in_order (numbered_by number read vs) xs ys (differ xs all own)
        (λ i d below. own_value number read vs numbers i _ _ (value_there xs all i d below) (own i d below)) each moved sorted
      where
        each : (q : K) (v : V) → numbered_by number read vs q ≡ Some v → Contains (map name xs) q
        each q v e =
            let at = own_place number read vs q v e in
            let x = mapped value (slice_get xs at.0) v (sym (slice_get-map value xs at.0) ∙ ap (λ l. slice_get l at.0) all ∙ at.1) in
            let is : number (name x.0) ≡ Some (read (value x.0)) = all_there (λ y. number (name y) ≡ Some (read (value y))) xs at.0 x.0 own x.1 in
            let same : name x.0 ≡ q = apart (name x.0) q (read v) (is ∙ ap (λ y. Some (read y)) x.2) at.2 in
            there (map name xs) at.0 q (slice_get-map name xs at.0 ∙ ap (option_map name) x.1 ∙ ap Some same)
