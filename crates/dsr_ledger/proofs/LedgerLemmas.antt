-- The ledger's tallies when a party, a summary key, a recording, a seat or a line is added, or a line is changed.
use Rattle.dsr_ledger.proofs.Common.{◌≡◌, ℕ, List, [], ◌∷◌, ◌++◌, length, refl, ap, subst, ◌∙◌, arith, cond, ◌&&◌, get_or, set, length-map, ⊎_elim, sym, Bool, Option, None, Some, slice_get, Result, Ok, Err, OnOk, OnErr, same_Some, slice_get_read, SeatShare, IsNumbered, Grows, place_by, IsWithNumber, AreBelow, place_in, AreSeated, HaveSeats, position, option_and_then, option_map_or, bytes_eq, cond_both, bytes_eq-Decides, Line, Tally, line_tally, lines_tally, no_tally, read_at, IsWide, line_keys, nat_list_eq_equiv, IndexMap, get, index_of, with_value_at, IsUnique, SummaryKey, Recording, seat_numbers, summary_key_eq, party_number, key_number, seat_of, seat_at, recording_number, recording_tally, tally_at, key_under, IsLineOf, Ledger, Seats}
use Rattle.dsr_ledger.proofs.NumberedLemmas.{by_numbered, by_new_key, grows_more, places_are_numbered, by_new_number, numbers_kept, read_changed}
use Rattle.dsr_ledger.proofs.IndexMapLemmas.{key_is, own_value, value_here, written, written_here}
use Rattle.dsr_ledger.proofs.KeyLemmas.{same_summary_key}
use Rattle.dsr_ledger.proofs.RecordingLemmas.{key_of, lines_seated, wide_below}

pub parties_are_numbered : (ks : List (List ℕ)) → IsNumbered (λ q. position (bytes_eq q) ks) (length ks)
parties_are_numbered ks = places_are_numbered bytes_eq bytes_eq-Decides ks

pub summary_keys_are_numbered : (ks : List SummaryKey) → IsNumbered (λ q. position (summary_key_eq q) ks) (length ks)
summary_keys_are_numbered ks = places_are_numbered summary_key_eq same_summary_key ks

by_cases : {X : Type 0} (P : X → Type 0) (w r : X) (b : Bool) (o : Option X) → P w → (o ≡ Some r → P r) → cond b (Some w) o ≡ Some r → P r
by_cases P w r b o one all = cond_both b (Some w) o (λ x. x ≡ Some r → P r) (λ _ e. subst P (same_Some w r e) one) (λ _. all)

-- a recording is replaced by its number
module _ {S : Type 0} (m : IndexMap (List ℕ) Recording S) (i : ℕ) (k : List ℕ) (v w : Recording) (unique : IsUnique bytes_eq m)
    (at : slice_get m.entries i ≡ Some (k, v)) where
  pub put_here : (q : List ℕ) → index_of bytes_eq m q ≡ Some i → get bytes_eq (with_value_at m i w) q ≡ Some w
  put_here q e = written_here bytes_eq bytes_eq-Decides nat_list_eq_equiv m i k v unique at w q e

  -- what holds of it and its successor, and of every other and itself, holds at each key
  each_related : (R : Option Recording → Option Recording → Type 0) → R (Some v) (Some w) → ((o : Option Recording) → R o o) → (q : List ℕ)
      → R (get bytes_eq m q) (get bytes_eq (with_value_at m i w) q)
  each_related R here other q =
      subst (R (get bytes_eq m q)) (sym (written bytes_eq bytes_eq-Decides nat_list_eq_equiv m i k v unique at w q)) (
      cond_both (bytes_eq k q) (Some w) (get bytes_eq m q) (R (get bytes_eq m q))
      (λ e. subst (λ x. R (get bytes_eq m x) (Some w)) ((bytes_eq-Decides k q).0 e)
      (subst (λ o. R o (Some w)) (sym (own_value bytes_eq bytes_eq-Decides nat_list_eq_equiv m i k v unique at)) here))
      (λ e. other (get bytes_eq m q)))

  -- what is read of it is changed, if so said, and what is read of the others is not
  pub changed_at : {X : Type 0} (read : Option Recording → X) (b : Bool) (f : X → X) (isrc : List ℕ) → index_of bytes_eq m isrc ≡ Some i
      → read (Some w) ≡ cond b (f (read (Some v))) (read (Some v)) → (q : List ℕ)
      → read (get bytes_eq (with_value_at m i w) q) ≡ cond (bytes_eq isrc q && b) (f (read (get bytes_eq m q))) (read (get bytes_eq m q))
  changed_at read b f isrc is change q =
      let value = value_here bytes_eq bytes_eq-Decides nat_list_eq_equiv m i k v unique at q in
      let here = λ (e : isrc ≡ q). ap read (value (ap (index_of bytes_eq m) (sym e) ∙ is)) in
      let own = key_is bytes_eq bytes_eq-Decides m i k v at isrc is in
      ap read (written bytes_eq bytes_eq-Decides nat_list_eq_equiv m i k v unique at w q)
      ∙ ap (λ x. read (cond (bytes_eq x q) (Some w) (get bytes_eq m q))) own ∙ grind (arith, bytes_eq-Decides isrc q, here, change)

  pub each_same : {X : Type 0} (f : Option Recording → X) → f (Some w) ≡ f (Some v) → (q : List ℕ)
      → f (get bytes_eq (with_value_at m i w) q) ≡ f (get bytes_eq m q)
  each_same f same = each_related (λ a b. f b ≡ f a) same (λ o. refl)

  pub each_grows : {K : Type 0} (f : Recording → K → Option ℕ) → Grows (f v) (f w) → (q : List ℕ)
      → Grows (λ x. option_and_then (λ r. f r x) (get bytes_eq m q)) (λ x. option_and_then (λ r. f r x) (get bytes_eq (with_value_at m i w) q))
  each_grows f grows =
      each_related (λ a b. Grows (λ x. option_and_then (λ r. f r x) a) (λ x. option_and_then (λ r. f r x) b)) grows (λ o x n e. e)

  pub each_wide : ((ss : List SeatShare) (j : ℕ) → IsWide ss v.lines.items j → IsWide ss w.lines.items j) → (q : List ℕ) (ss : List SeatShare) (j : ℕ)
      → ((r : Recording) → get bytes_eq m q ≡ Some r → IsWide ss r.lines.items j)
      → (r : Recording) → get bytes_eq (with_value_at m i w) q ≡ Some r → IsWide ss r.lines.items j
  each_wide wide q ss j =
      each_related
      (λ (a : Option Recording) b. ((r : Recording) → a ≡ Some r → IsWide ss r.lines.items j) → (r : Recording) → b ≡ Some r → IsWide ss r.lines.items j)
      (λ h r is. subst (λ (x : Recording). IsWide ss x.lines.items j) (same_Some w r is) (wide ss j (h v refl))) (λ o h. h) q

  -- what holds of each recording holds of each after it
  each_put : (P : Recording → Type 0) → ((q : List ℕ) (r : Recording) → get bytes_eq m q ≡ Some r → P r) → P w → (q : List ℕ) (r : Recording)
      → get bytes_eq (with_value_at m i w) q ≡ Some r → P r
  each_put P all one q r e =
      by_cases P w r (bytes_eq k q) (get bytes_eq m q) one (all q r) (sym (written bytes_eq bytes_eq-Decides nat_list_eq_equiv m i k v unique at w q) ∙ e)

-- the ghost fields of a ledger of which a recording is replaced
pub recording_put : (l : Ledger) (i : ℕ) (k : List ℕ) (v w : Recording) → IsUnique bytes_eq l.recordings → slice_get l.recordings.entries i ≡ Some (k, v)
    → (AreBelow (length l.parties.keys) (seat_numbers v.seats) → AreBelow (length l.parties.keys) (seat_numbers w.seats))
    → (AreBelow (length l.summary_keys.keys) (line_keys v.lines.items) → AreBelow (length l.summary_keys.keys) (line_keys w.lines.items)) → record {
      seated : (isrc : List ℕ) (r : Recording) → get bytes_eq (with_value_at l.recordings i w) isrc ≡ Some r
          → AreBelow (length l.parties.keys) (seat_numbers r.seats);
      keyed : (isrc : List ℕ) (r : Recording) → get bytes_eq (with_value_at l.recordings i w) isrc ≡ Some r
          → AreBelow (length l.summary_keys.keys) (line_keys r.lines.items);
    }
recording_put l i k v w unique at seats lines =
    let m = l.recordings in let found = own_value bytes_eq bytes_eq-Decides nat_list_eq_equiv m i k v unique at in
    record {
      seated = each_put m i k v w unique at (λ r. AreBelow (length l.parties.keys) (seat_numbers r.seats)) l.seated (seats (l.seated k v found));
      keyed = each_put m i k v w unique at (λ r. AreBelow (length l.summary_keys.keys) (line_keys r.lines.items)) l.keyed (lines (l.keyed k v found));
    }

-- a party that gets a new number has no seat yet, so no tally changes
module _ (old new : List ℕ → Option ℕ) (name : List ℕ) (m : ℕ) (none : old name ≡ None)
    (is : (q : List ℕ) → new q ≡ cond (bytes_eq name q) (Some m) (old q)) where
  seats_kept : (r : Recording) → AreBelow m (seat_numbers r.seats) → seat_of new r ≡ seat_of old r
  seats_kept r below = λ j q. by_new_key bytes_eq bytes_eq-Decides old new name m (seat_numbers r.seats) none is below q j

  pub party_tally : (number : Option ℕ) (o : Option Recording) → ((r : Recording) → o ≡ Some r → AreBelow m (seat_numbers r.seats))
      → recording_tally new number o ≡ recording_tally old number o
  party_tally number None below = refl
  party_tally number (Some r) below = ap (λ seat. lines_tally seat r.lines.items number) (seats_kept r (below r refl))

-- a summary key that gets a new number has no line yet, so no tally changes
module _ (old new : SummaryKey → Option ℕ) (key : SummaryKey) (m : ℕ) (none : old key ≡ None)
    (is : (q : SummaryKey) → new q ≡ cond (summary_key_eq key q) (Some m) (old q)) where
  pub key_tally : (party : List ℕ → Option ℕ) (q : SummaryKey) (o : Option Recording) → ((r : Recording) → o ≡ Some r → AreBelow m (line_keys r.lines.items))
      → recording_tally party (new q) o ≡ recording_tally party (old q) o
  key_tally party q None below = refl
  key_tally party q (Some r) below =
      ap (read_at (line_tally (seat_of party r)) no_tally r.lines.items)
      (by_new_key summary_key_eq same_summary_key old new key m (line_keys r.lines.items) none is (below r refl) q)

  pub keys_grow : Grows old new
  keys_grow q i e = grind (arith, is q, same_summary_key key q, none)

-- seats of a recording, of which a party has one that may be new
module _ (party : List ℕ → Option ℕ) (m : ℕ) (numbered : IsNumbered party m) (v : Recording) (seats : Seats) (name : List ℕ) (n : ℕ) (is : party name ≡ Some n)
    (more : IsWithNumber (seat_numbers v.seats) (seat_numbers seats) n) where
  new_seat : place_in (seat_numbers v.seats) n ≡ None → seat_numbers seats ≡ seat_numbers v.seats ++ n ∷ [] → (q : List ℕ)
      → place_by party (seat_numbers seats) q ≡ cond (bytes_eq name q) (Some (length (seat_numbers v.seats))) (seat_of party v q)
  new_seat none items q =
      ap (λ ns. place_by party ns q) items ∙ by_new_number bytes_eq bytes_eq-Decides party name n m (seat_numbers v.seats) numbered is none q

  no_seat : place_in (seat_numbers v.seats) n ≡ None → seat_of party v name ≡ None
  no_seat none = ap (option_and_then (place_in (seat_numbers v.seats))) is ∙ none

  pub seated_tally : (number : Option ℕ)
      → lines_tally (place_by party (seat_numbers seats)) v.lines.items number ≡ recording_tally party number (Some v)
  seated_tally number =
      ⊎_elim (λ kept. ap (λ ns. lines_tally (place_by party ns) v.lines.items number) kept) (λ new.
      lines_seated (seat_of party v) (place_by party (seat_numbers seats)) name _ v.lines.items v.within (no_seat new.0) (new_seat new.0 new.1) number) more

  pub seated_grows : Grows (seat_of party v) (place_by party (seat_numbers seats))
  seated_grows =
      ⊎_elim (λ kept q i e. ap (λ ns. place_by party ns q) kept ∙ e) (λ new.
      grows_more bytes_eq bytes_eq-Decides (seat_of party v) (place_by party (seat_numbers seats)) name _ (no_seat new.0) (new_seat new.0 new.1)) more

-- a line is replaced by one with a greater tally
pub line_changed : (number : SummaryKey → Option ℕ) (m : ℕ) → IsNumbered number m → (seat : List ℕ → Option ℕ) (f : Tally → Tally) (ls : List Line) (i : ℕ)
    (l w : Line) (key : SummaryKey) → l ≡ get_or ls i l → w.sums.key ≡ l.sums.key → line_tally seat w ≡ f (line_tally seat l)
    → place_by number (line_keys ls) key ≡ Some i → (q : SummaryKey) → lines_tally seat (set ls i w) (number q)
    ≡ cond (summary_key_eq key q) (f (lines_tally seat ls (number q))) (lines_tally seat ls (number q))
line_changed number m h seat f ls i l w key is same change at q =
    let numbered = subst (IsNumbered (place_by number (line_keys ls))) (length-map ls key_of) (by_numbered number m (line_keys ls) h) in
    ap (λ ks. read_at (line_tally seat) no_tally (set ls i w) (place_by number ks q)) (numbers_kept key_of ls i l w is same)
    ∙ read_changed summary_key_eq same_summary_key (line_tally seat) no_tally f (place_by number (line_keys ls)) key ls i l w numbered at is change q

-- the line of a key in a recording, which is wide and has the key's tally, and the seats of its shares
pub record LineHere (ledger : Ledger) (isrc : List ℕ) (key : SummaryKey) (es : List (List ℕ × ℕ)) (line : ℕ) (shares : List SeatShare)
    (r : Recording) : Type 0 where
  pub place : place_by (key_number ledger) (line_keys r.lines.items) key ≡ Some line
  pub wide : IsWide shares r.lines.items line
  pub have : HaveSeats (seat_of (party_number ledger) r) (length (seat_numbers r.seats)) shares es
  pub tally : (l : Line) → l ≡ get_or r.lines.items line l → tally_at ledger (key_under isrc key) ≡ line_tally (seat_of (party_number ledger) r) l

-- a recording of the ledger
module _ (ledger : Ledger) (i : ℕ) (k : List ℕ) (r : Recording) (unique : IsUnique bytes_eq ledger.recordings)
    (at : slice_get ledger.recordings.entries i ≡ Some (k, r)) (isrc : List ℕ) (es : List (List ℕ × ℕ)) (shares : List SeatShare) where
  pub have_here : recording_number ledger isrc ≡ Some i → AreSeated (seat_at ledger isrc) shares es
      → HaveSeats (seat_of (party_number ledger) r) (length (seat_numbers r.seats)) shares es
  have_here is seated =
      let party = party_number ledger in let found = value_here bytes_eq bytes_eq-Decides nat_list_eq_equiv ledger.recordings i k r unique at isrc is in
      let seat : seat_at ledger isrc ≡ seat_of party r = λ j name. option_and_then (λ (x : Recording). seat_of party x name) (found j) in
      record {
        numbered = by_numbered party (length ledger.parties.keys) (seat_numbers r.seats) (parties_are_numbered ledger.parties.keys);
        seated = subst (λ s. AreSeated s shares es) seat seated;
      }

  pub line_here : (key : SummaryKey) (line : ℕ) → IsLineOf ledger isrc key es i line shares → LineHere ledger isrc key es line shares r
  line_here key line h =
      let number = key_number ledger in let ls = r.lines.items in
      let found = value_here bytes_eq bytes_eq-Decides nat_list_eq_equiv ledger.recordings i k r unique at isrc h.recording_is in
      let wide = h.wide r found in let seat = seat_of (party_number ledger) r in
      let place = sym (ap (option_and_then (λ (x : Recording). place_by number (line_keys x.lines.items) key)) found) ∙ h.line_is in
      record {
        place = place;
        wide = wide;
        have = have_here h.recording_is h.seated;
        tally = λ l is.
            ap (recording_tally (party_number ledger) (number key)) found ∙ ap (read_at (line_tally seat) no_tally ls) place
            ∙ ap (λ o. option_map_or (line_tally seat) o no_tally) (slice_get_read ls (length ls) line l refl (wide_below shares ls line wide) is);
      }

-- a recording is added, or memory was refused
pub each_inserted : {A E : Type 0} (r : Result A E) (isrc : List ℕ) (w : Recording) (old new : List ℕ → Option Recording)
    → OnOk r ((q : List ℕ) → new q ≡ cond (bytes_eq isrc q) (Some w) (old q)) → OnErr r ((q : List ℕ) → new q ≡ old q)
    → (P : Recording → Type 0) → ((q : List ℕ) (x : Recording) → old q ≡ Some x → P x) → P w → (q : List ℕ) (x : Recording) → new q ≡ Some x → P x
each_inserted (Ok a) isrc w old new is same P all one q x at = by_cases P w x (bytes_eq isrc q) (old q) one (all q x) (sym (is q) ∙ at)
each_inserted (Err e) isrc w old new is same P all one q x at = all q x (sym (same q) ∙ at)
