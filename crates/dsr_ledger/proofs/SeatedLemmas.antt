-- Shares at the seats of their parties, and lists of values.
use Rattle.dsr_ledger.proofs.Common.{◌≡◌, ℕ, suc, ◌<◌, List, [], ◌∷◌, ◌++◌, length, take, get_or, refl, sym, ap, ◌∙◌, arith, append_assoc, ℤ, Option, None, Some, IsSomeAnd, map, option_map, slice_get, zip, flat_map, AllZip, length-map, map-append, take_more, gets, MatchOption-at_some, slice_get-get_or, slice_get-map, AllZip-left, get_or-zip, length-zip, WorkParts, SeatShare, Grows, part_of, work_parts, IsSeated, AreSeated, AreSeatsBelow, SeatedMore, shares_of}

module _ {A B : Type 0} (R : A → B → Type 0) where
  pub zip_append : (xs ys : List A) (us vs : List B) → AllZip R xs us → AllZip R ys vs → AllZip R (xs ++ ys) (us ++ vs)
  zip_append [] ys [] vs h k = k
  zip_append (x ∷ xs) ys (u ∷ us) vs h k = (h.0, zip_append xs ys us vs h.1 k)
  zip_append _ ys _ vs h k = absurd h

  -- the item at place i of the other list
  pub record ZipStep (us : List B) (i : ℕ) (x : A) : Type 0 where
    pub other : B
    pub there : slice_get us i ≡ Some other
    pub related : R x other

  pub zip_step : (xs : List A) (us : List B) (i : ℕ) (x : A) → AllZip R xs us → slice_get xs i ≡ Some x → ZipStep us i x
  zip_step xs us i x h at = by (slice_get us i) refl (MatchOption-at_some _ _ x at (AllZip-left R xs us h i))
    where
      by : (o : Option B) → slice_get us i ≡ o → IsSomeAnd o (R x) → ZipStep us i x
      by None e k = absurd k
      by (Some u) e k = record { other = u; there = e; related = k }

pub zip_weaker : {A B : Type 0} (R S : A → B → Type 0) → ((x : A) (u : B) → R x u → S x u) → (xs : List A) (us : List B) → AllZip R xs us → AllZip S xs us
zip_weaker R S f [] [] h = h
zip_weaker R S f (x ∷ xs) (u ∷ us) h = (f x u h.0, zip_weaker R S f xs us h.1)
zip_weaker R S f _ _ h = absurd h

pub seated_grows : (old new : List ℕ → Option ℕ) → Grows old new → (ss : List SeatShare) (es : List (List ℕ × ℕ)) → AreSeated old ss es → AreSeated new ss es
seated_grows old new g ss es h = zip_weaker (IsSeated old) (IsSeated new) (λ s e k. (g e.0 s.seat k.0, k.1)) ss es h

-- shares at seats below n
pub seats_below : (seat : List ℕ → Option ℕ) (n : ℕ) → ((q : List ℕ) (i : ℕ) → seat q ≡ Some i → i < n) → (ss : List SeatShare) (es : List (List ℕ × ℕ))
    → AreSeated seat ss es → AreSeatsBelow n ss
seats_below seat n below [] es h = tt
seats_below seat n below (s ∷ ss) [] h = absurd h
seats_below seat n below (s ∷ ss) (e ∷ es) h = (below e.0 s.seat h.0.0, seats_below seat n below ss es h.1)

-- more shares appended
pub seated_more : (was is : List ℕ → Option ℕ) (old mid new : List SeatShare) (es fs : List (List ℕ × ℕ)) → Grows was is → SeatedMore was old mid es
    → SeatedMore is mid new fs → SeatedMore is old new (es ++ fs)
seated_more was is old mid new es fs g h k = record {
  more = h.more ++ k.more;
  items = k.items ∙ ap (λ l. l ++ k.more) h.items ∙ append_assoc old h.more k.more;
  seated = zip_append (IsSeated is) h.more k.more es fs (seated_grows was is g h.more es h.seated) k.seated;
}

-- one more item
pub take_next : {X : Type 0} (xs : List X) (i : ℕ) (x : X) → slice_get xs i ≡ Some x → take (suc i) xs ≡ take i xs ++ x ∷ []
take_next xs i x at = grind (arith, gets, take_more xs i x)

-- the next party of a work with its share
pub next_share : (parties : List (List ℕ)) (shares : List ℕ) (i : ℕ) (p : List ℕ) (s : ℕ) → i < length parties → length parties ≡ length shares
    → p ≡ get_or parties i p → s ≡ get_or shares i s → take (suc i) (zip parties shares) ≡ take i (zip parties shares) ++ (p, s) ∷ []
next_share parties shares i p s below even at with_share =
    let is = get_or-zip parties shares i (p, s) below (omega arith) in
    take_next (zip parties shares) i (p, s) (slice_get-get_or (zip parties shares) i (p, s) (omega (arith, length-zip parties shares))
    ∙ ap Some (is ∙ (λ j. (sym at j, sym with_share j))))

-- the parts of an amount by the shares of works are those by the works
pub parts_of_shares : (a : ℤ) (works : List WorkParts) → map (part_of a) (shares_of works) ≡ flat_map (work_parts a) works
parts_of_shares a [] = refl
parts_of_shares a (w ∷ works) =
    map-append (part_of a) (zip w.parties w.shares) (shares_of works) ∙ ap (λ l. work_parts a w ++ l) (parts_of_shares a works)

-- a list of the values of items
module _ {X : Type 0} (f : X → Option ℕ) (xs : List X) (ns : List ℕ) (h : map f xs ≡ map Some ns) where
  pub values_long : length xs ≡ length ns
  values_long = sym (length-map xs f) ∙ ap length h ∙ length-map ns Some

  places : (i : ℕ) → option_map f (slice_get xs i) ≡ option_map Some (slice_get ns i)
  places i = sym (slice_get-map f xs i) ∙ ap (λ l. slice_get l i) h ∙ slice_get-map Some ns i

  pub value_at : (i : ℕ) (x : X) → slice_get xs i ≡ Some x → (n : ℕ) × (slice_get ns i ≡ Some n) × (f x ≡ Some n)
  value_at i x at = grind (arith, places i)

  pub item_at : (i n : ℕ) → slice_get ns i ≡ Some n → (x : X) × (slice_get xs i ≡ Some x) × (f x ≡ Some n)
  item_at i n at = grind (arith, places i)
