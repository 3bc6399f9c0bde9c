-- Numbered keys and items: one more key, and one more value.
use Rattle.dsr_ledger.proofs.Common.{◌≡◌, ℕ, ◌<◌, Bool, true, false, not, cond, List, [], ◌∷◌, ◌++◌, length, set, get_or, nat_eq, refl, sym, ap, ◌∙◌, arith, subst, Option, None, Some, slice_get, map, option_map, Decides, list_any, position, AllByRecursion, option_and_then, option_map_or, nat_tests, common_steps, length_push, length-map, map_push, position_or_len_push, list_any_none, position-Some, position_or_len_is, prefix_len-le-length, fails_before_first, gets, slice_get-map, slice_get_read, slice_get_within, get_or_from_slice_get, IsNumbered, Grows, read_at, place_in, place_by, AreBelow, map-set_same, All-from_recursion}
pub use Rattle.std.proofs.lemmas.Bool.Decides.{Decides-eqb as same_number}

-- the first place that passes, if there is one
pub position_is : {X : Type 0} (p : X → Bool) (xs : List X) (i : ℕ) (d : X) → i < length xs → p (get_or xs i d) ≡ true
    → ((k : ℕ) → k < i → p (get_or xs k d) ≡ false) → position p xs ≡ Some i
position_is p xs i d below here before = grind (arith, nat_tests, position_or_len_is p xs i d (omega arith) before (λ _. here))

pub position_none : {X : Type 0} (p : X → Bool) (xs : List X) (d : X) → ((k : ℕ) → k < length xs → p (get_or xs k d) ≡ false) → position p xs ≡ None
position_none p xs d all = grind (arith, nat_tests, position_or_len_is p xs (length xs) d (omega arith) all (λ l. absurd (omega arith)))

pub none_any : {X : Type 0} (p : X → Bool) (xs : List X) → position p xs ≡ None → list_any p xs ≡ false
none_any p xs e = list_any_none p xs (λ k d l. grind (arith, nat_tests, fails_before_first p xs k d))

pub taken : {A B : Type 0} (f : A → Option B) (o : Option A) (y : B) → option_and_then f o ≡ Some y → (x : A) × (o ≡ Some x) × (f x ≡ Some y)
taken f o y e = grind arith

-- what is read of the value at a place
pub read_is : {V W : Type 0} (read : V → W) (none : W) (vs : List V) (o : Option ℕ)
    → read_at read none vs o ≡ option_map_or read (option_and_then (slice_get vs) o) none
read_is read none vs None = refl
read_is read none vs (Some i) = refl

module _ {V W : Type 0} (read : V → W) (none : W) where
  -- one more value, of which nothing is read
  pub read_more : (vs : List V) (v : V) (o : Option ℕ) → read v ≡ none → read_at read none (vs ++ v ∷ []) o ≡ read_at read none vs o
  read_more vs v o nothing = grind (arith, common_steps, gets)

  -- a value that reads the same as the one it replaces
  pub read_set_same : (vs : List V) (i : ℕ) (v w : V) (o : Option ℕ) → slice_get vs i ≡ Some v → read w ≡ read v
      → read_at read none (set vs i w) o ≡ read_at read none vs o
  read_set_same vs i v w o at alike = grind (arith, common_steps, gets)

module _ {K : Type 0} (same : K → K → Bool) (decides : (a b : K) → Decides (same a b) (a ≡ b)) where
  pub same_flips : (a b : K) → same a b ≡ same b a
  same_flips a b = grind (arith, decides a b, decides b a)

  pub grows_more : (old new : K → Option ℕ) (k : K) (n : ℕ) → old k ≡ None → ((q : K) → new q ≡ cond (same k q) (Some n) (old q)) → Grows old new
  grows_more old new k n none is q i e = grind (arith, is q, decides k q)

  -- keys with the same numbers are the same
  pub numbers_agree : (number : K → Option ℕ) (m : ℕ) (k q : K) (n x : ℕ) → IsNumbered number m → number k ≡ Some n → number q ≡ Some x
      → nat_eq n x ≡ same k q
  numbers_agree number m k q n x h is e = grind (arith, nat_tests, decides k q, h.apart k q n)

  module _ {V W : Type 0} (read : V → W) (none : W) where
    -- a value that is changed at a key: what is read there changes so, and the other keys read as before
    pub read_changed : (f : W → W) (number : K → Option ℕ) (k : K) (vs : List V) (i : ℕ) (v w : V) → IsNumbered number (length vs) → number k ≡ Some i
        → v ≡ get_or vs i v → read w ≡ f (read v) → (q : K) → read_at read none (set vs i w) (number q)
        ≡ cond (same k q) (f (read_at read none vs (number q))) (read_at read none vs (number q))
    read_changed f number k vs i v w h at is change q = grind (arith, common_steps, gets, decides k q, h.below k i at, h.apart k q i at)

  abbrev pub place : List K → K → Option ℕ
  place ks q = position (same q) ks

  -- keys have their places as numbers
  pub places_are_numbered : (ks : List K) → IsNumbered (place ks) (length ks)
  places_are_numbered ks = record {
    below = λ k i e. (position-Some (same k) ks i k e).0;
    apart = λ k l i e f. grind (arith, position-Some (same k) ks i k e, position-Some (same l) ks i k f, decides k (get_or ks i k), decides l (get_or ks i k));
  }

  -- one more key, which was not among them
  pub place_more : (ks : List K) (k q : K) → place ks k ≡ None → place (ks ++ k ∷ []) q ≡ cond (same k q) (Some (length ks)) (place ks q)
  place_more ks k q none =
      let absent = λ (e : same q k ≡ true). ap (place ks) ((decides q k).0 e) ∙ none in let most = prefix_len-le-length (λ x. not (same q x)) ks in
      grind (arith, nat_tests, absent, same_flips q k, position_or_len_push (same q) ks k, length_push ks k)

  -- the keys are distinct
  abbrev Apart : List K → Type 0
  Apart ks = (i : ℕ) (k : K) → slice_get ks i ≡ Some k → place ks k ≡ Some i

  pub apart_more : (ks : List K) (k : K) → place ks k ≡ None → Apart ks → Apart (ks ++ k ∷ [])
  apart_more ks k none h i q at =
      place_more ks k q none ∙ grind (arith, common_steps, gets, decides k q, h i q, λ (e : k ≡ q). sym none ∙ ap (place ks) e)

module _ {K : Type 0} where
  pub by_numbered : (number : K → Option ℕ) (m : ℕ) (ns : List ℕ) → IsNumbered number m → IsNumbered (place_by number ns) (length ns)
  by_numbered number m ns h =
      let all = places_are_numbered nat_eq same_number ns in
      record {
        below = λ k i e. grind (arith, λ (x : ℕ). all.below x i);
        apart = λ k l i e f. grind (arith, h.apart k l, λ (x y : ℕ). all.apart x y i);
      }

  module _ (same : K → K → Bool) (decides : (a b : K) → Decides (same a b) (a ≡ b)) where
    -- a key with a number past those that have a place has no place, and the others keep theirs
    pub by_new_key : (old new : K → Option ℕ) (k : K) (m : ℕ) (ns : List ℕ) → old k ≡ None → ((q : K) → new q ≡ cond (same k q) (Some m) (old q))
        → AreBelow m ns → (q : K) → place_by new ns q ≡ place_by old ns q
    by_new_key old new k m ns none is below q = grind (arith, nat_tests, is q, decides k q, below m)

    -- a number is appended: its key has the last place, and the others keep theirs
    pub by_new_number : (number : K → Option ℕ) (k : K) (n m : ℕ) (ns : List ℕ) → IsNumbered number m → number k ≡ Some n → place_in ns n ≡ None → (q : K)
        → place_by number (ns ++ n ∷ []) q ≡ cond (same k q) (Some (length ns)) (place_by number ns q)
    by_new_number number k n m ns h has none q =
        let more = λ (x : ℕ). place_more nat_eq same_number ns n x none in
        grind (arith, decides k q, more, λ (x : ℕ). numbers_agree same decides number m k q n x h has)

module _ {X : Type 0} (number : X → ℕ) where
  abbrev pub numbers : List X → List ℕ
  numbers xs = map number xs

  abbrev pub item_in : List X → ℕ → Option ℕ
  item_in xs n = place_in (numbers xs) n

  -- an item is replaced by one with the same number
  pub numbers_kept : (xs : List X) (i : ℕ) (x w : X) → x ≡ get_or xs i x → number w ≡ number x → numbers (set xs i w) ≡ numbers xs
  numbers_kept xs i x w is same = map-set_same number xs i w x (same ∙ ap number is)

  pub item_more : (xs : List X) (x : X) (q : ℕ) → item_in xs (number x) ≡ None
      → item_in (xs ++ x ∷ []) q ≡ cond (nat_eq (number x) q) (Some (length xs)) (item_in xs q)
  item_more xs x q none =
      ap (λ ns. place_in ns q) (map_push number xs x) ∙ place_more nat_eq same_number (numbers xs) (number x) q none
      ∙ ap (λ n. cond (nat_eq (number x) q) (Some n) (item_in xs q)) (length-map xs number)

  -- the item for a number that had none
  pub item_there : (xs : List X) (x : X) → item_in xs (number x) ≡ None → item_in (xs ++ x ∷ []) (number x) ≡ Some (length xs)
  item_there xs x none = grind (arith, item_more xs x (number x) none, same_number (number x) (number x))

  pub items_grow : (xs : List X) (x : X) → item_in xs (number x) ≡ None → Grows (item_in xs) (item_in (xs ++ x ∷ []))
  items_grow xs x none = grows_more nat_eq same_number (item_in xs) (item_in (xs ++ x ∷ [])) (number x) (length xs) none (λ q. item_more xs x q none)

  pub number_at_place : (xs : List X) (i : ℕ) (x : X) → i < length xs → x ≡ get_or xs i x → slice_get (numbers xs) i ≡ Some (number x)
  number_at_place xs i x below is = slice_get-map number xs i ∙ ap (option_map number) (slice_get_read xs (length xs) i x refl below is)

  module _ {W : Type 0} (read : X → W) (none : W) where
    -- one more item, of which nothing is read
    pub items_pushed : (xs : List X) (x : X) → item_in xs (number x) ≡ None → read x ≡ none → (o : Option ℕ)
        → read_at read none (xs ++ x ∷ []) (option_and_then (item_in (xs ++ x ∷ [])) o) ≡ read_at read none xs (option_and_then (item_in xs) o)
    items_pushed xs x absent nothing o =
        let more = λ (q : ℕ). item_more xs x q absent in let same = λ (q : ℕ). same_number (number x) q in
        read_more read none xs x (option_and_then (item_in (xs ++ x ∷ [])) o) nothing
        ∙ grind (arith, gets, more, same, λ (q : ℕ) (e : number x ≡ q). sym absent ∙ ap (item_in xs) e)

    -- an item is replaced by one that reads the same
    pub items_written : (xs : List X) (i : ℕ) (x w : X) → i < length xs → x ≡ get_or xs i x → number w ≡ number x → read w ≡ read x → (o : Option ℕ)
        → read_at read none (set xs i w) (option_and_then (item_in (set xs i w)) o) ≡ read_at read none xs (option_and_then (item_in xs) o)
    items_written xs i x w below is same alike o =
        ap (λ ns. read_at read none (set xs i w) (option_and_then (place_in ns) o)) (numbers_kept xs i x w is same)
        ∙ read_set_same read none xs i x w (option_and_then (item_in xs) o) (slice_get_read xs (length xs) i x refl below is) alike

pub each_at : {X : Type 0} (P : X → Type 0) (xs : List X) (i : ℕ) (x : X) → AllByRecursion P xs → slice_get xs i ≡ Some x → P x
each_at P xs i x all e = subst P (get_or_from_slice_get xs i x x e) (All-from_recursion P xs all i x (slice_get_within xs i x e))
