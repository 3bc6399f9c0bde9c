-- The tallies of lines when a line is added, widened or changed, and when a seat is given.
use Rattle.dsr_ledger.proofs.Common.{◌≡◌, ℕ, ◌<◌, List, [], ◌∷◌, ◌++◌, length, refl, ap, subst, ◌∙◌, arith, cond, set, get_or, nat_eq, ⊎_elim, sym, Option, None, Some, slice_get, length_push, slice_get_within, gets, same_Some, slice_get-get_or, slice_get_read, SeatShare, Grows, IsWithNumber, AreApart, AreBelow, AreIndexed, place_in, part_in, part_seats, owed_at_place, HaveParts, IsDistinct, bytes_eq, cases_eq, nat_tests, nat_eq_equiv, common_steps, list_any-append, bytes_eq-Decides, IsDistinct-from_apart, IsDistinct-push, Line, Parts, Recording, PartsGrow, seat_numbers, line_keys, no_tally, line_tally, line_in, lines_tally, AreWithin, IsWide, LinesGrow, length-le_from_distinct_below}
use Rattle.dsr_ledger.proofs.PartLemmas.{parts_kept}
use Rattle.dsr_ledger.proofs.NumberedLemmas.{items_grow, items_pushed, none_any, place_more, by_new_key, numbers_kept, items_written, same_number}

abbrev pub key_of : Line → ℕ
key_of l = l.sums.key

-- the seats of a line's parts are below a bound
abbrev pub IsWithin : ℕ → Line → Type 0
IsWithin seats l = AreBelow seats (part_seats l.parts.items.items)

pub grow_pushed : (ls : List Line) (l : Line) → line_in ls l.sums.key ≡ None → ((seat : List ℕ → Option ℕ) → line_tally seat l ≡ no_tally)
    → LinesGrow ls (ls ++ l ∷ [])
grow_pushed ls l none nothing = record {
  tallies = λ seat number. items_pushed key_of (line_tally seat) no_tally ls l none (nothing seat) number;
  numbers = items_grow key_of ls l none;
  wide = λ ss i h. record { line = h.line; there = (let at = h.there in grind (arith, common_steps, gets)); wide = h.wide };
}

pub written_there : {X : Type 0} (ls : List X) (i : ℕ) (w : X) → i < length ls → slice_get (set ls i w) i ≡ Some w
written_there ls i w below = grind (arith, common_steps, gets)

-- a wide line is there
pub wide_below : (ss : List SeatShare) (ls : List Line) (i : ℕ) → IsWide ss ls i → i < length ls
wide_below ss ls i h = slice_get_within ls i h.line h.there

pub wide_here : (ss : List SeatShare) (ls : List Line) (i : ℕ) (l : Line) → IsWide ss ls i → l ≡ get_or ls i l → HaveParts ss l.parts.items.items
wide_here ss ls i l h is =
    let at = slice_get_read ls (length ls) i l refl (wide_below ss ls i h) is in
    subst (λ (x : Line). HaveParts ss x.parts.items.items) (same_Some h.line l (sym h.there ∙ at)) h.wide

pub wide_written : (ls : List Line) (i : ℕ) (l w : Line) → i < length ls → l ≡ get_or ls i l
    → Grows (part_in l.parts.items.items) (part_in w.parts.items.items) → (ss : List SeatShare) (j : ℕ) → IsWide ss ls j → IsWide ss (set ls i w) j
wide_written ls i l w below is grow ss j h =
    ⊎_elim
    (λ e.
    let wide = parts_kept ss l.parts.items.items w.parts.items.items grow (wide_here ss ls i l (subst (IsWide ss ls) (sym e) h) is) in
    subst (IsWide ss (set ls i w)) e (record { line = w; there = written_there ls i w below; wide = wide }))
    (λ e. let at = h.there in record { line = h.line; there = grind (arith, common_steps, gets, e); wide = h.wide })
    (cases_eq i j)

-- a line is given parts of which nothing is owed
pub grow_widened : (ls : List Line) (i : ℕ) (l : Line) (parts : Parts) → i < length ls → l ≡ get_or ls i l
    → PartsGrow l.parts.items.items parts.items.items → LinesGrow ls (set ls i (record { sums = l.sums; parts = parts }))
grow_widened ls i l parts below is grow =
    let w : Line = record { sums = l.sums; parts = parts } in
    let alike : (seat : List ℕ → Option ℕ) → line_tally seat w ≡ line_tally seat l =
    λ seat j. record { is_booked = l.sums.is_booked; usages = l.sums.usages; amount = l.sums.amount; owed = λ q. grow.owed (seat q) j } in
    record {
      tallies = λ seat number. items_written key_of (line_tally seat) no_tally ls i l w below is refl (alike seat) number;
      numbers = λ q n e. ap (λ ks. place_in ks q) (numbers_kept key_of ls i l w is refl) ∙ e;
      wide = wide_written ls i l w below is grow.places;
    }

pub within_pushed : (seats : ℕ) (ls : List Line) (l : Line) → AreWithin seats ls → IsWithin seats l → AreWithin seats (ls ++ l ∷ [])
within_pushed seats ls l all one i x e k j at =
    let same = λ (s : l ≡ x). one k j (ap (λ (y : Line). part_in y.parts.items.items k) s ∙ at) in
    grind (arith, common_steps, gets, λ (s : slice_get ls i ≡ Some x). all i x s k j at, same)

pub within_written : (seats : ℕ) (ls : List Line) (i : ℕ) (w : Line) → AreWithin seats ls → IsWithin seats w → AreWithin seats (set ls i w)
within_written seats ls i w all one j x e k n at =
    let same = λ (s : w ≡ x). one k n (ap (λ (y : Line). part_in y.parts.items.items k) s ∙ at) in
    grind (arith, common_steps, gets, λ (s : slice_get ls j ≡ Some x). all j x s k n at, same)

-- the ghost fields of a recording of which a line is replaced
pub line_put : (r : Recording) (i : ℕ) (l w : Line) → i < length r.lines.items → l ≡ get_or r.lines.items i l → w.sums.key ≡ l.sums.key
    → (IsWithin (length (seat_numbers r.seats)) l → IsWithin (length (seat_numbers r.seats)) w) → record {
      apart : AreApart (line_keys (set r.lines.items i w));
      indexed : AreIndexed (line_keys (set r.lines.items i w)) r.index;
      within : AreWithin (length (seat_numbers r.seats)) (set r.lines.items i w);
    }
line_put r i l w below is same still =
    let ls = r.lines.items in let keys = sym (numbers_kept key_of ls i l w is same) in
    let one = still (r.within i l (slice_get_read ls (length ls) i l refl below is)) in
    record {
      apart = subst AreApart keys r.apart;
      indexed = subst (λ ks. AreIndexed ks r.index) keys r.indexed;
      within = within_written (length (seat_numbers r.seats)) ls i w r.within one;
    }

pub below_with : (old new : List ℕ) (n m : ℕ) → IsWithNumber old new n → n < m → AreBelow m old → AreBelow m new
below_with old new n m h less below k i e =
    ⊎_elim (λ same. below k i (ap (λ ns. place_in ns k) (sym same) ∙ e)) (λ more.
    grind (arith, nat_tests, below k i, sym (place_more nat_eq same_number old n k more.0) ∙ ap (λ ns. place_in ns k) (sym more.1) ∙ e)) h

-- a party is given the seat after the last one
pub lines_seated : (old new : List ℕ → Option ℕ) (name : List ℕ) (seats : ℕ) (ls : List Line) → AreWithin seats ls → old name ≡ None
    → ((q : List ℕ) → new q ≡ cond (bytes_eq name q) (Some seats) (old q)) → (number : Option ℕ) → lines_tally new ls number ≡ lines_tally old ls number
lines_seated old new name seats ls within none is number =
    grind (arith, gets, λ (i : ℕ) (l : Line) (e : slice_get ls i ≡ Some l). line l (within i l e))
  where
    line : (l : Line) → IsWithin seats l → line_tally new l ≡ line_tally old l
    line l below =
        let place = by_new_key bytes_eq bytes_eq-Decides old new name seats (part_seats l.parts.items.items) none is below in
        λ j. record { is_booked = l.sums.is_booked; usages = l.sums.usages; amount = l.sums.amount; owed = λ q. owed_at_place l.parts.items.items (place q j) }

pub grow_twice : (a b c : List Line) → LinesGrow a b → LinesGrow b c → LinesGrow a c
grow_twice a b c g h = record {
  tallies = λ seat number. h.tallies seat number ∙ g.tallies seat number;
  numbers = λ q i e. h.numbers q i (g.numbers q i e);
  wide = λ ss i e. h.wide ss i (g.wide ss i e);
}

-- distinct numbers are distinct as keys
apart_distinct : (ns : List ℕ) → AreApart ns → IsDistinct nat_eq ns
apart_distinct ns apart = IsDistinct-from_apart nat_eq ns (λ i j d less short.
    let there = λ (k : ℕ) (below : k < length ns). apart k (get_or ns k d) (slice_get-get_or ns k d below) in
    grind (arith, nat_tests, there i, there j, λ (e : get_or ns i d ≡ get_or ns j d). ap (place_in ns) e))

-- n distinct numbers below n are all numbers below n
pub all_there : (n : ℕ) (ns : List ℕ) → AreApart ns → AreBelow n ns → length ns ≡ n → (s : ℕ) → s < n → (i : ℕ) × (place_in ns s ≡ Some i)
all_there n ns apart below long s less = by (place_in ns s) refl
  where
    by : (o : Option ℕ) → place_in ns s ≡ o → (i : ℕ) × (place_in ns s ≡ Some i)
    by (Some i) e = (i, e)
    by None e =
        let distinct = IsDistinct-push nat_eq_equiv ns s (apart_distinct ns apart) (none_any (nat_eq s) ns e) in
        let most = length-le_from_distinct_below (ns ++ s ∷ []) n distinct (λ q any.
        grind (arith, nat_tests, list_any-append (nat_eq q) ns (s ∷ []), none_any (nat_eq q) ns, below q)) in
        absurd (omega (arith, most, length_push ns s, long))
