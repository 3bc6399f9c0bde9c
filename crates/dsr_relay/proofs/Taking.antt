-- A tap after one more event was taken.
use Rattle.dsr_relay.proofs.Common.{◌≡◌, ℕ, ◌+◌, Bool, true, false, ◌||◌, List, [], ◌∷◌, ◌++◌, length, take, refl, sym, ap, ◌∙◌, subst, arith, append_assoc, length-append, Placed, IsOrderly, is_ended, has_ended, orderly_next, orderly_front, ended_whole, Log, Takes, Message, events_of, IsMessage, AreMessages, received_of}
use Rattle.std.proofs.Math.Seq.{take-append_seam}
use Rattle.dsr_relay.proofs.Messages.{append_nil, events_of-push, messages_back}

pub has_ended-push : (xs : List Placed) (e : Placed) → has_ended xs ≡ false → is_ended e.part ≡ has_ended (xs ++ e ∷ [])
has_ended-push xs e none = sym (any_push xs none)
  where
    or_false : (b : Bool) → (b || false) ≡ b
    or_false true = refl
    or_false false = refl

    second : (a b : Bool) → (a || b) ≡ false → b ≡ false
    second true b h = absurd (cc)
    second false b h = h

    first : (a b : Bool) → (a || b) ≡ false → a ≡ false
    first true b h = h
    first false b h = refl

    any_push : (ys : List Placed) → has_ended ys ≡ false → has_ended (ys ++ e ∷ []) ≡ is_ended e.part
    any_push [] h = or_false (is_ended e.part)
    any_push (y ∷ ys) h = rw (first (is_ended y.part) (has_ended ys) h) (any_push ys (second (is_ended y.part) (has_ended ys) h))

-- `seen` is the event `e` as the code reads it
pub record TakesNext (arrived taken held : List Placed) (e seen : Placed) : Type 0 where
  pub place : e.place ≡ length taken
  pub front : take (seen.place + 1) arrived ≡ taken ++ e ∷ []
  pub whole : take (seen.place + 1) arrived ++ held ≡ arrived
  pub count : length (take (seen.place + 1) arrived) ≡ seen.place + 1
  pub ended : has_ended taken ≡ false → is_ended seen.part ≡ has_ended (take (seen.place + 1) arrived)
  pub orderly : IsOrderly (take (seen.place + 1) arrived)

next : (arrived taken held : List Placed) (e : Placed) → taken ++ e ∷ held ≡ arrived → IsOrderly arrived → TakesNext arrived taken held e e
next arrived taken held e is orderly =
    let at = orderly_next taken e held (subst IsOrderly (sym is) orderly) in
    let seam : (taken ++ e ∷ []) ++ held ≡ arrived = append_assoc taken (e ∷ []) held ∙ is in
    let len : length (taken ++ e ∷ []) ≡ e.place + 1 = omega (arith, length-append taken (e ∷ []), at) in
    let front : take (e.place + 1) arrived ≡ taken ++ e ∷ [] =
    ap (λ n. take n arrived) (sym len) ∙ ap (λ l. take (length (taken ++ e ∷ [])) l) (sym seam) ∙ take-append_seam (taken ++ e ∷ []) held in
    record {
      place = at;
      front = front;
      whole = ap (λ l. l ++ held) front ∙ seam;
      count = ap length front ∙ len;
      ended = λ none. has_ended-push taken e none ∙ ap has_ended (sym front);
      orderly = orderly_front (take (e.place + 1) arrived) held (subst IsOrderly (sym (ap (λ l. l ++ held) front ∙ seam)) orderly);
    }

pub takes_next : (arrived taken held : List Placed) (e seen : Placed) → seen ≡ e → taken ++ e ∷ held ≡ arrived → IsOrderly arrived
    → TakesNext arrived taken held e seen
takes_next arrived taken held e seen same is orderly =
    subst (λ (f : Placed). TakesNext arrived taken held e f) (sym same) (next arrived taken held e is orderly)

-- after all of `lot` was taken, whose last event the code reads as `seen`
pub record TakesLot (arrived taken lot : List Placed) (seen : Placed) : Type 0 where
  pub front : take (seen.place + 1) arrived ≡ taken ++ lot
  pub whole : take (seen.place + 1) arrived ++ [] ≡ arrived
  pub count : length (take (seen.place + 1) arrived) ≡ seen.place + 1
  pub ended : is_ended seen.part ≡ has_ended (take (seen.place + 1) arrived)
  pub orderly : IsOrderly (take (seen.place + 1) arrived)

not_true : (b : Bool) → (b ≡ true → ⊥) → b ≡ false
not_true true h = absurd (h refl)
not_true false h = refl

-- events that are followed by another one have no Ended
pub going_on : (xs : List Placed) (e : Placed) → IsOrderly (xs ++ e ∷ []) → has_ended xs ≡ false
going_on xs e orderly = not_true (has_ended xs) (λ ended. let none : e ∷ [] ≡ [] = ended_whole xs (e ∷ []) orderly ended in cc)

pub takes_lot : (arrived taken lot rest : List Placed) (e seen : Placed) → seen ≡ e → taken ++ lot ≡ arrived → lot ≡ rest ++ e ∷ [] → IsOrderly arrived
    → TakesLot arrived taken lot seen
takes_lot arrived taken lot rest e seen same is last orderly =
    let as_lot : (taken ++ rest) ++ e ∷ [] ≡ taken ++ lot = append_assoc taken rest (e ∷ []) ∙ ap (λ l. taken ++ l) (sym last) in
    let next = takes_next arrived (taken ++ rest) [] e seen same (as_lot ∙ is) orderly in
    record {
      front = next.front ∙ as_lot;
      whole = next.whole;
      count = next.count;
      ended = next.ended (going_on (taken ++ rest) e (subst IsOrderly (sym (as_lot ∙ is)) orderly));
      orderly = next.orderly;
    }

pub takes_again : (v : Log) (ms : List Message) → v ≡ Takes ms → v ≡ Takes (received_of v)
takes_again v ms e = e ∙ ap (λ u. Takes (received_of u)) (sym e)

-- the events received after one more message
pub come_in : (v w : Log) (m : Message) (taken : List Placed) → w ≡ Takes (received_of v ++ m ∷ []) → taken ++ [] ≡ events_of (received_of v)
    → taken ++ m ≡ events_of (received_of w)
come_in v w m taken e all =
    ap (λ l. l ++ m) (sym (append_nil taken) ∙ all) ∙ sym (events_of-push (received_of v) m) ∙ ap (λ u. events_of (received_of u)) (sym e)

-- the received message has 1 to 32 events
pub has_size : (v w : Log) (m : Message) → w ≡ Takes (received_of v ++ m ∷ []) → AreMessages (received_of w) → IsMessage m
has_size v w m e h = let last = messages_back (received_of v) (m ∷ []) (subst (λ (u : Log). AreMessages (received_of u)) e h) in last.0

-- the first event of a received message
pub first_next : (v w : Log) (m : Message) (n : ℕ) (held came : List Placed) (e seen : Placed) (rest : List Placed) → seen ≡ e
    → w ≡ Takes (received_of v ++ m ∷ []) → take n (events_of (received_of v)) ++ held ≡ events_of (received_of v)
    → held ≡ [] → came ≡ m → came ≡ e ∷ rest → IsOrderly (events_of (received_of w))
    → TakesNext (events_of (received_of w)) (take n (events_of (received_of v))) rest e seen
first_next v w m n held came e seen rest same is whole none gives first orderly =
    let taken = take n (events_of (received_of v)) in
    takes_next (events_of (received_of w)) taken rest e seen same
    (ap (λ l. taken ++ l) (sym first ∙ gives) ∙ come_in v w m taken is (ap (λ l. taken ++ l) (sym none) ∙ whole)) orderly

-- all events of a received message
pub lot_next : (v w : Log) (m : Message) (n : ℕ) (held rest : List Placed) (e seen : Placed) → seen ≡ e → w ≡ Takes (received_of v ++ m ∷ [])
    → take n (events_of (received_of v)) ++ held ≡ events_of (received_of v)
    → held ≡ [] → m ≡ rest ++ e ∷ [] → IsOrderly (events_of (received_of w)) → TakesLot (events_of (received_of w)) (take n (events_of (received_of v))) m seen
lot_next v w m n held rest e seen same is whole none last orderly =
    let taken = take n (events_of (received_of v)) in
    takes_lot (events_of (received_of w)) taken m rest e seen same (come_in v w m taken is (ap (λ l. taken ++ l) (sym none) ∙ whole)) last orderly
