-- The lines of the report, recording after recording.
use Rattle.dsr_ledger.proofs.Common.{◌≡◌, List, [], ◌++◌, sym, subst, ℕ, zero, suc, ◌<◌, ◌≤◌, drop, drop_all, get_or, Bool, true, cond, ◌∷◌, ◌⊎◌, inl, inr, ⊎_elim, length, refl, ap, ◌∙◌, arith, LedgerLine, Option, None, Some, slice_get, map, filter, option_map_or, AllByRecursion, Contains, IsStrictlySortedBy, Bor, bytes_eq, tied_itself, nat_list_cmp_total, keys_of, ordering_then, Ordering, Less, Contains-append_left, Contains-append_right, filter-append, map-append, recursion_from_All, map-map, get, Key, text_cmp, key_cmp, Line, SummaryKey, Recording, Ledger, summary_key_cmp, summary_key_in, place_by, Booking, key_under, is_at_key, at_key, line_of, ledger, tally_at, recording_tally, party_number, key_number, seat_of, seat_numbers, part_seats, no_tally, line_tally, line_keys, key_tally, LedgerStands, IsSmall, AreSmall, AreBelow, AreBefore, AreListed, IsBookedLine, booked_lines, keys_under, key_in, line_for, lent}
use Rattle.dsr_ledger.proofs.KeyLemmas.{key_total, key_exact}
use Rattle.dsr_ledger.proofs.EachLemmas.{some_if, contains_map, each_append, each_filter, each_map, each_of, each_weaker, fewer}
use Rattle.dsr_ledger.proofs.SortedLemmas.{kept_in, kept_out}
use Rattle.dsr_ledger.proofs.NumberedLemmas.{read_is, taken}
use Rattle.dsr_ledger.proofs.OrderLemmas.{in_order_is}
use Rattle.dsr_ledger.proofs.LineLemmas.{some_at}

-- whole keys of one recording
module _ (isrc : List ℕ) where
  pub under_sorted : (ks : List SummaryKey) → IsStrictlySortedBy summary_key_cmp ks → IsStrictlySortedBy key_cmp (map (key_under isrc) ks)
  unfolding IsStrictlySortedBy
  under_sorted [] sorted = tt
  under_sorted (k ∷ ks) sorted = (
    each_map (λ y. key_cmp (key_under isrc k) y ≡ Less) (key_under isrc) ks (
        each_weaker (λ y. summary_key_cmp k y ≡ Less) (λ y. key_cmp (key_under isrc k) (key_under isrc y) ≡ Less) (λ y h.
        ap (λ o. ordering_then o (summary_key_cmp k y)) (tied_itself nat_list_cmp_total isrc) ∙ h) ks sorted.0),
    under_sorted ks sorted.1,
  )

  pub under_own : (ks : List SummaryKey) → AllByRecursion (λ key. key.isrc ≡ isrc) (map (key_under isrc) ks)
  under_own ks = each_map (λ key. key.isrc ≡ isrc) (key_under isrc) ks (each_of (λ _. isrc ≡ isrc) (λ _. refl) ks)

  pub under_all : (q : Key) (ks : List SummaryKey) → isrc ≡ q.isrc → Contains ks (summary_key_in q) → Contains (map (key_under isrc) ks) q
  under_all q ks own c =
      subst (Contains (map (key_under isrc) ks)) (λ i. key_under (own i) (summary_key_in q)) (contains_map (key_under isrc) ks (summary_key_in q) c)

-- the bookings of a key are small if all are
pub small_at : (key : Key) (bs : List Booking) → AreSmall bs → AreSmall (at_key key bs)
small_at key bs h = record { few = omega (arith, fewer (is_at_key key) bs, h.few); each = each_filter IsSmall (is_at_key key) bs h.each }

pub booked_append : (bs : List Booking) (ks ls : List Key) → booked_lines bs (ks ++ ls) ≡ booked_lines bs ks ++ booked_lines bs ls
booked_append bs ks ls =
    let f : Key → LedgerLine = λ key. line_of key (at_key key bs) in let p : Key → Bool = λ key. (key_tally bs key).is_booked in
    ap (map f) (filter-append p ks ls) ∙ map-append f (filter p ks) (filter p ls)

sorted_append : {K : Type 0} (R : K → K → Ordering) (ks ls : List K) → IsStrictlySortedBy R ks → IsStrictlySortedBy R ls
    → AllByRecursion (λ k. AllByRecursion (λ l. R k l ≡ Less) ls) ks → IsStrictlySortedBy R (ks ++ ls)
unfolding IsStrictlySortedBy
sorted_append R [] ls s t h = t
sorted_append R (k ∷ ks) ls s t h = (each_append (λ y. R k y ≡ Less) ks ls s.0 h.0, sorted_append R ks ls s.1 t h.1)

abbrev booked : Line → Bool
booked l = l.sums.is_booked

module _ (books : Ledger) where
  abbrev pub parties : List (List ℕ)
  parties = books.parties.keys

  abbrev pub summary_keys : List SummaryKey
  summary_keys = books.summary_keys.keys

  -- a key with a booking has a recording, and a line in it
  pub booked_recording : (q : Key) → (tally_at books q).is_booked ≡ true → (r : Recording) × (get bytes_eq books.recordings q.isrc ≡ Some r)
  booked_recording q =
      some_if (λ o. (recording_tally (party_number books) (key_number books (summary_key_in q)) o).is_booked) (get bytes_eq books.recordings q.isrc) refl

  pub tally_read : (q : Key) (r : Recording) → get bytes_eq books.recordings q.isrc ≡ Some r → tally_at books q
      ≡ option_map_or (line_tally (seat_of (party_number books) r)) (line_for summary_keys r.lines.items (summary_key_in q)) no_tally
  tally_read q r at =
      ap (recording_tally (party_number books) (key_number books (summary_key_in q))) at
      ∙ read_is (line_tally (seat_of (party_number books) r)) no_tally r.lines.items _

  booked_line : (q : Key) (r : Recording) → get bytes_eq books.recordings q.isrc ≡ Some r → (tally_at books q).is_booked ≡ true
      → (l : Line) × (line_for summary_keys (filter booked r.lines.items) (summary_key_in q) ≡ Some l)
  booked_line q r at has =
      let tally = λ (o : Option Line). option_map_or (line_tally (seat_of (party_number books) r)) o no_tally in
      let is = ap (λ t. t.is_booked) (sym (tally_read q r at)) ∙ has in
      let l = some_if (λ o. (tally o).is_booked) (line_for summary_keys r.lines.items (summary_key_in q)) refl is in (
        l.0,
        kept_out (key_in summary_keys) (λ (x : Line). x.sums.key) booked r.lines.items r.apart (summary_key_in q) l.0 l.1
            (sym (ap (λ o. (tally o).is_booked) l.1) ∙ is),
      )

  -- a line of a recording that has a booking
  module _ (isrc : List ℕ) (r : Recording) (k : SummaryKey) (l : Line) (is : IsBookedLine books isrc r k l) where
    own_line : (line_for summary_keys r.lines.items k ≡ Some l) × (l.sums.is_booked ≡ true)
    own_line = kept_in (key_in summary_keys) (λ (x : Line). x.sums.key) booked r.lines.items r.apart k l is.1

    -- its tally is that of the bookings of its key
    pub line_stands : (bs : List Booking) → LedgerStands books bs
        → line_tally (seat_of (party_number books) r) l ≡ key_tally bs (key_under isrc k)
    line_stands bs stand =
        sym (tally_read (key_under isrc k) r is.0 ∙ ap (λ o. option_map_or (line_tally (seat_of (party_number books) r)) o no_tally) own_line.0)
        ∙ stand (key_under isrc k)

    pub seats_below : AreBelow (length (seat_numbers r.seats)) (part_seats l.parts.items.items)
    seats_below =
        let i = taken (slice_get r.lines.items) (place_by (key_in summary_keys) (line_keys r.lines.items) k) l own_line.0 in r.within i.0 l i.2

    pub line_given : (bs : List Booking) → LedgerStands books bs
        → booked_lines bs (key_under isrc k ∷ []) ≡ line_of (key_under isrc k) (at_key (key_under isrc k) bs) ∷ []
    line_given bs stand =
        let key = key_under isrc k in
        ap (λ b. map (λ q. line_of q (at_key q bs)) (cond b (key ∷ []) [])) (sym (ap (λ t. t.is_booked) (line_stands bs stand)) ∙ own_line.1)

  -- one more recording
  pub before_step : (isrc : List ℕ) (r : Recording) (rest : List (List ℕ × Recording)) (keys : List Key) (es : List (SummaryKey × Line))
      → AreBefore books ((isrc, r) ∷ rest) keys → AreListed summary_key_cmp (line_for summary_keys (filter booked r.lines.items)) es
      → AreBefore books rest (keys ++ map (key_under isrc) (keys_of es))
  unfolding IsStrictlySortedBy
  before_step isrc r rest ks es was listed =
      let ls = map (key_under isrc) (keys_of es) in let Before : Key → Type 0 = λ key. AllByRecursion (λ y. text_cmp key.isrc y ≡ Less) (keys_of rest) in
      let own = λ (P : Key → Type 0) (f : (l : Key) → l.isrc ≡ isrc → P l). each_weaker (λ l. l.isrc ≡ isrc) P f ls (under_own isrc (keys_of es)) in
      record {
        ahead = was.ahead.1;
        ours = was.ours.1;
        order = sorted_append key_cmp ks ls was.order (under_sorted isrc (keys_of es) listed.order) (
            each_weaker (λ k. AllByRecursion (λ y. text_cmp k.isrc y ≡ Less) (isrc ∷ keys_of rest)) (λ k. AllByRecursion (λ l. key_cmp k l ≡ Less) ls)
            (λ k less. own (λ l. key_cmp k l ≡ Less) (λ l is. ap (λ o. ordering_then o (summary_key_cmp (summary_key_in k) (summary_key_in l)))
            (ap (text_cmp k.isrc) is ∙ less.0))) ks was.before);
        before = each_append Before ks ls (
            each_weaker (λ k. AllByRecursion (λ y. text_cmp k.isrc y ≡ Less) (isrc ∷ keys_of rest)) Before (λ k less. less.1) ks was.before)
            (own Before (λ l is. subst (λ i. AllByRecursion (λ y. text_cmp i y ≡ Less) (keys_of rest)) (sym is) was.ahead.0));
        all = λ q booked. ⊎_elim (λ c. here q booked c.0 c.1 c.2) (λ c. inr (Contains-append_left ks ls q c)) (was.all q booked);
      }
    where
      here : (q : Key) → (tally_at books q).is_booked ≡ true → (i : ℕ) → i < length (isrc ∷ keys_of rest) → get_or (isrc ∷ keys_of rest) i q.isrc ≡ q.isrc
          → Contains (keys_of rest) q.isrc ⊎ Contains (ks ++ map (key_under isrc) (keys_of es)) q
      here q booked zero below is =
          let l = booked_line q r (ap (get bytes_eq books.recordings) (sym is) ∙ was.ours.0) booked in
          inr (Contains-append_right ks (map (key_under isrc) (keys_of es)) q (under_all isrc q (keys_of es) is (listed.all (summary_key_in q) l.0 l.1)))
      here q booked (suc i) below is = inl (i, omega arith, is)

  -- once no recording comes after, the lines are the ledger
  pub lines_are : (bs : List Booking) (keys : List Key) → AreBefore books [] keys → LedgerStands books bs → booked_lines bs keys ≡ ledger bs
  unfolding ledger
  lines_are bs keys w stand =
      let f : Key → LedgerLine = λ key. line_of key (at_key key bs) in let p : Key → Bool = λ key. (key_tally bs key).is_booked in
      sym (map-map (λ (e : Key × LedgerLine). e.1) (λ key. (key, f key)) (filter p keys))
      ∙ ap (map (λ e. e.1)) (in_order_is key_cmp key_total key_exact f (map (λ b. b.key) bs) p keys w.order (λ q. some_at q bs)
      (λ q booked. ⊎_elim (λ c. absurd (let no = c.1 in omega arith)) (λ c. c) (w.all q (ap (λ t. t.is_booked) (stand q) ∙ booked))))

  -- no key is before all recordings
  pub none_before : (list : List (List ℕ × Recording)) → AreListed text_cmp (get bytes_eq books.recordings) list → AreBefore books list []
  unfolding IsStrictlySortedBy
  none_before list h = record {
    ahead = h.order;
    ours = recursion_from_All (λ x. get bytes_eq books.recordings x.0 ≡ Some x.1) list h.own;
    order = tt;
    before = tt;
    all = λ q booked. let r = booked_recording q booked in inl (h.all q.isrc r.0 r.1);
  }

-- no line is left of those at hand
pub none_left : (o : Option (Bor (List ℕ) × Bor Recording)) (es : List (Bor SummaryKey × Bor Line)) (n : ℕ) → length es ≤ n
    → keys_under o (lent (drop n es)) ≡ []
none_left None es n past = refl
none_left (Some x) es n past = ap (λ l. map (key_under x.0.now) (keys_of (lent l))) (drop_all n es past)
