-- An `IndexMap` whose keys' equality is equality of values: the number of a key, and a value written by its number.
use Rattle.dsr_ledger.proofs.Common.{◌≡◌, ℕ, Bool, cond, List, get_or, sym, ap, ◌∙◌, arith, Some, slice_get, option_map, Decides, position, IsDistinct, position-Some, gets, slice_get-map, get_or_from_slice_get, IsEquivalence, lookup_from_place, apart_from_distinct, IndexMap, keys, get, index_of, with_value_at, IsUnique, updates-with_value_at}
use Rattle.dsr_ledger.proofs.NumberedLemmas.{position_is}

module _ {K : Type 0} (eq : K → K → Bool) (decides : (a b : K) → Decides (eq a b) (a ≡ b)) where
  -- a key of distinct keys has the number of its place
  pub number_at : (ks : List K) (i : ℕ) (k : K) → IsDistinct eq ks → slice_get ks i ≡ Some k → position (eq k) ks ≡ Some i
  number_at ks i k distinct e = grind (arith, gets, position_is (eq k) ks i k, decides, apart_from_distinct eq ks)

  module _ {V S : Type 0} (m : IndexMap K V S) (i : ℕ) (k : K) (v : V) (at : slice_get m.entries i ≡ Some (k, v)) where
    key_at : slice_get (keys m) i ≡ Some k
    key_at = slice_get-map (λ (e : K × V). e.0) m.entries i ∙ ap (option_map (λ (e : K × V). e.0)) at

    -- the key that has this number
    pub key_is : (q : K) → index_of eq m q ≡ Some i → k ≡ q
    key_is q e =
        sym (get_or_from_slice_get (keys m) i k q key_at) ∙ sym ((decides q (get_or (keys m) i q)).0 (position-Some (eq q) (keys m) i q e).1)

  module _ (laws : IsEquivalence eq) {V S : Type 0} (m : IndexMap K V S) (i : ℕ) (k : K) (v : V) (unique : IsUnique eq m)
      (at : slice_get m.entries i ≡ Some (k, v)) where
    pub own_number : index_of eq m k ≡ Some i
    own_number = number_at (keys m) i k unique (key_at m i k v at)

    pub own_value : get eq m k ≡ Some v
    own_value = lookup_from_place laws m.entries i k v unique at

    pub value_here : (q : K) → index_of eq m q ≡ Some i → get eq m q ≡ Some v
    value_here q e = ap (get eq m) (sym (key_is m i k v at q e)) ∙ own_value

    -- a value that is written by its number: its key has it, and the other keys have what they had
    pub written : (w : V) (q : K) → get eq (with_value_at m i w) q ≡ cond (eq k q) (Some w) (get eq m q)
    written w q = (updates-with_value_at m i w laws unique k v at).0 q

    pub written_here : (w : V) (q : K) → index_of eq m q ≡ Some i → get eq (with_value_at m i w) q ≡ Some w
    written_here w q e = written w q ∙ ap (λ b. cond b (Some w) (get eq m q)) ((decides k q).1 (key_is m i k v at q e))

    -- a value that f makes of the one it replaces: f changes the value of its key, and no other
    pub changed : (f : V → V) (w : V) → w ≡ f v → (q : K) → get eq (with_value_at m i w) q ≡ cond (eq k q) (option_map f (get eq m q)) (get eq m q)
    changed f w change q = grind (arith, written w q, decides k q, λ (e : k ≡ q). sym (ap (get eq m) e) ∙ own_value)
