-- The lines of a ledger, given one after another.
use Rattle.dsr_ledger.proofs.Common.{◌≡◌, List, ℕ, ◌+◌, ◌<◌, ◌≤◌, ◌^◌, [], ◌∷◌, ◌++◌, append-nil, arith, length, get_or, sym, ap, ◌∙◌, subst, ∥∥₁_elim, props, All, None, Some, drop, AreOfSmall, filter, sum_by, length-map, get_or-map, unsigned_abs, ◌-ℤ◌, int_sum_by, Bor, Key, Line, SummaryKey, SeatPart, Recording, Ledger, LedgerLine, PartyLine, Booking, LedgerView, AreBefore, AreDistinctBelow, AreGiven, AreListed, HaveGiven, IsBookedLine, LedgerStands, all_parts, at_key, booked_lines, bytes_eq, get, key_under, keys_under, lent, line_for, line_keys, line_of, lines_left, owed_for, owed_in, part_seats, party_in, party_lines, place_by, seat_numbers, summary_key_cmp, text_cmp, into_iter_items}
use Rattle.std.specs.Option.{MatchOption}
use Rattle.dsr_ledger.proofs.SortedLemmas.{few_below}
use Rattle.dsr_ledger.proofs.PartyLemmas.{line_fits, unclaimed_is}
use Rattle.dsr_ledger.proofs.ReportLemmas.{before_step, booked_append, line_given, line_stands, lines_are, none_before, none_left, seats_below, small_at}

module _ (from : LedgerView) (keys : List Key) (have : HaveGiven from keys) where
  -- the next recording is one of the ledger
  pub next_recording : (x : Bor (List ℕ) × Bor Recording) (rest : List (Bor (List ℕ) × Bor Recording)) → into_iter_items from.recordings ≡ x ∷ rest
      → get bytes_eq from.books.now.recordings x.0.now ≡ Some x.1.now
  next_recording x rest e = (subst (λ es. AreBefore from.books.now (lent es) (keys ++ keys_under from.at_hand (lines_left from))) e have.before).ours.0

  pub its_numbers : (x : Bor (List ℕ) × Bor Recording) (rest : List (Bor (List ℕ) × Bor Recording)) → into_iter_items from.recordings ≡ x ∷ rest
      → AreDistinctBelow (length from.books.now.summary_keys.keys) (line_keys x.1.now.lines.items)
  its_numbers x rest e = record { apart = x.1.now.apart; below = from.books.now.keyed x.0.now x.1.now (next_recording x rest e) }

  -- its lines are at hand
  pub lines_laid : (to : LedgerView) (x : Bor (List ℕ) × Bor Recording) → length from.lines.items ≤ from.given
      → into_iter_items from.recordings ≡ x ∷ into_iter_items to.recordings → to.books ≡ from.books → to.at_hand ≡ Some x → to.given ≡ 0
      → AreListed summary_key_cmp (line_for from.books.now.summary_keys.keys (filter (λ l. l.sums.is_booked) x.1.now.lines.items)) (lent to.lines.items)
      → HaveGiven to keys
  lines_laid to x past e same hand none listed =
      let books = from.books.now in let all = ap (λ l. keys ++ l) (none_left from.at_hand from.lines.items from.given past) ∙ append-nil keys in
      let was : AreBefore books ((x.0.now, x.1.now) ∷ lent (into_iter_items to.recordings)) keys =
      subst (λ (X : Type 0). X) (λ i. AreBefore books (lent (e i)) (all i)) have.before in
      let now = before_step books x.0.now x.1.now (lent (into_iter_items to.recordings)) keys (lent to.lines.items) was listed in
      let mine : All (λ e. IsBookedLine books x.0.now x.1.now e.0 e.1) (lent to.lines.items) = λ i d below. (was.ours.0, listed.own i d below) in
      record {
        before = subst (λ (X : Type 0). X) (λ i. AreBefore (sym same i).now (lent (into_iter_items to.recordings))
            (keys ++ keys_under (sym hand i) (lent (drop (sym none i) to.lines.items)))) now;
        at_hand = subst (λ (X : Type 0). X) (λ i. MatchOption (sym hand i) (length to.lines.items ≤ to.given)
            (λ y. All (λ e. IsBookedLine (sym same i).now y.0.now y.1.now e.0 e.1) (lent to.lines.items))) mine;
      }

  -- the next line at hand
  module _ (x : Bor (List ℕ) × Bor Recording) (e : Bor SummaryKey × Bor Line) (hand : from.at_hand ≡ Some x) (below : from.given < length from.lines.items)
      (is : e ≡ get_or from.lines.items from.given e) where
    mine : All (λ z. IsBookedLine from.books.now x.0.now x.1.now z.0 z.1) (lent from.lines.items)
    mine = subst (λ o. MatchOption o (length from.lines.items ≤ from.given)
        (λ y. All (λ z. IsBookedLine from.books.now y.0.now y.1.now z.0 z.1) (lent from.lines.items))) hand have.at_hand

    pub line_at_hand : IsBookedLine from.books.now x.0.now x.1.now e.0.now e.1.now
    line_at_hand =
        let f : Bor SummaryKey × Bor Line → SummaryKey × Line = λ y. (y.0.now, y.1.now) in
        subst (λ y. IsBookedLine from.books.now x.0.now x.1.now y.0 y.1) (get_or-map f from.lines.items from.given e (f e) below ∙ ap f (sym is))
        (mine from.given (f e) (subst (λ n. from.given < n) (sym (length-map from.lines.items f)) below))

-- before a line is given
pub none_given : (to : LedgerView) (list : List (Bor (List ℕ) × Bor Recording)) → AreListed text_cmp (get bytes_eq to.books.now.recordings) (lent list)
    → into_iter_items to.recordings ≡ list → to.at_hand ≡ None → length to.lines.items ≤ to.given → HaveGiven to []
none_given to list listed all none past =
    let books = to.books.now in
    record {
      before = subst (λ (X : Type 0). X) (λ i. AreBefore books (lent (sym all i)) (keys_under (sym none i) (lines_left to)))
          (none_before books (lent list) listed);
      at_hand = subst (λ o. MatchOption o (length to.lines.items ≤ to.given) (λ x. All (λ e. IsBookedLine books x.0.now x.1.now e.0 e.1) (lent to.lines.items)))
          (sym none) past;
    }

-- a line of a recording that has a booking
module _ (books : Ledger) (isrc : List ℕ) (r : Recording) (k : SummaryKey) (l : Line) (is : IsBookedLine books isrc r k l) where
  abbrev key : Key
  key = key_under isrc k

  pub part_numbers : AreDistinctBelow (length (seat_numbers r.seats)) (part_seats l.parts.items.items)
  part_numbers = record { apart = l.parts.apart; below = seats_below books isrc r k l is }

  pub parts_fit : length l.parts.items.items ≤ length books.parties.keys
  parts_fit =
      let seats = few_below (seat_numbers r.seats) _ (record { apart = r.seats.apart; below = books.seated isrc r is.0 }) in
      omega (arith, seats, few_below _ _ part_numbers, length-map l.parts.items.items (λ p. p.seat))

  -- what its parts owe each party
  pub owed_is : (parts : List SeatPart) (names : List (List ℕ)) (numbers : List ℕ) → parts ≡ l.parts.items.items → names ≡ books.parties.keys
      → numbers ≡ seat_numbers r.seats → (bs : List Booking) → LedgerStands books bs → (q : List ℕ)
      → owed_in parts (place_by (party_in names) numbers q) ≡ owed_for q (all_parts (at_key key bs))
  owed_is parts names numbers e f g bs stand q =
      (λ i. owed_in (e i) (place_by (party_in (f i)) (g i) q)) ∙ ap (λ t. t.owed q) (line_stands books isrc r k l is bs stand)

  pub sums_fit : (ps : List PartyLine) → ((bs : List Booking) → LedgerStands books bs → ps ≡ party_lines (at_key key bs)) → ∥ AreOfSmall books ∥₁
      → unsigned_abs l.sums.amount + sum_by (λ p. unsigned_abs p.amount) ps < 2 ^ 127
  sums_fit ps are small = ∥∥₁_elim small (hlevel props) (λ o.
      let amount = ap (λ t. t.amount) (line_stands books isrc r k l is o.bookings o.stand) in
      subst (λ n. n < 2 ^ 127) (λ i. unsigned_abs (sym amount i) + sum_by (λ p. unsigned_abs p.amount) (sym (are o.bookings o.stand) i))
      (line_fits (at_key key o.bookings) (small_at key o.bookings o.small)))

  -- the line with its parties is that of its key
  pub whole_is : (bs : List Booking) → LedgerStands books bs → (whole : LedgerLine) → whole.parties ≡ party_lines (at_key key bs)
      → whole ≡ record {
        isrc = isrc;
        territory = k.territory;
        use_type = k.use_type;
        currency = k.currency;
        usages = l.sums.usages;
        amount = l.sums.amount;
        parties = whole.parties;
        unclaimed = l.sums.amount -ℤ int_sum_by (λ p. p.amount) whole.parties;
      }
      → whole ∷ [] ≡ booked_lines bs (key ∷ [])
  unfolding line_of
  whole_is bs stand whole parties e =
      let tally = line_stands books isrc r k l is bs stand in let amount = ap (λ t. t.amount) tally in
      (λ i. e i ∷ []) ∙ (λ i. record {
        isrc = isrc;
        territory = k.territory;
        use_type = k.use_type;
        currency = k.currency;
        usages = (tally i).usages;
        amount = amount i;
        parties = parties i;
        unclaimed = ((λ j. amount j -ℤ int_sum_by (λ p. p.amount) (parties j)) ∙ unclaimed_is (at_key key bs)) i;
      } ∷ []) ∙ sym (line_given books isrc r k l is bs stand)

  -- one more line is given
  pub one_given : (from next : LedgerView) (all given : List LedgerLine) (whole : LedgerLine) → (h : AreGiven from all given) → from.books.now ≡ books
      → next.books ≡ from.books → HaveGiven next (h.keys ++ key ∷ []) → ((bs : List Booking) → LedgerStands books bs → whole ∷ [] ≡ booked_lines bs (key ∷ []))
      → AreGiven next all (given ++ whole ∷ [])
  one_given from next all given whole h mine same have line =
      record {
        bookings = h.bookings;
        stand = subst (λ b. LedgerStands b.now h.bookings) (sym same) h.stand;
        all_are = h.all_are;
        keys = h.keys ++ key ∷ [];
        have = have;
        given_are = (λ i. h.given_are i ++ line h.bookings (subst (λ b. LedgerStands b h.bookings) mine h.stand) i)
            ∙ sym (booked_append h.bookings h.keys (key ∷ []));
      }

-- once no line comes, all were given
pub all_given : (from : LedgerView) (all given : List LedgerLine) (h : AreGiven from all given) → AreBefore from.books.now [] h.keys → given ≡ all
all_given from all given h done = h.given_are ∙ lines_are from.books.now h.bookings h.keys done h.stand ∙ sym h.all_are
