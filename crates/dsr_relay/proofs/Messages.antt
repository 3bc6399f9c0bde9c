-- Laws of messages and their events.
use Rattle.dsr_relay.proofs.Common.{◌≡◌, ◌*◌, ◌≤◌, List, [], ◌∷◌, ◌++◌, length, refl, sym, ap, ◌∙◌, arith, append_assoc, length-append, Placed, Message, events_of, IsMessage, AreMessages}

pub append_nil : (xs : List Placed) → xs ++ [] ≡ xs
append_nil [] = refl
append_nil (x ∷ xs) = ap (λ l. x ∷ l) (append_nil xs)

pub events_of-append : (ms ns : List Message) → events_of (ms ++ ns) ≡ events_of ms ++ events_of ns
events_of-append [] ns = refl
events_of-append (m ∷ ms) ns = ap (λ l. m ++ l) (events_of-append ms ns) ∙ sym (append_assoc m (events_of ms) (events_of ns))

pub events_of-push : (ms : List Message) (m : Message) → events_of (ms ++ m ∷ []) ≡ events_of ms ++ m
events_of-push ms m = events_of-append ms (m ∷ []) ∙ ap (λ l. events_of ms ++ l) (append_nil m)

pub messages_push : (ms : List Message) (m : Message) → AreMessages ms → IsMessage m → AreMessages (ms ++ m ∷ [])
messages_push [] m h size = (size, tt)
messages_push (n ∷ ms) m h size = (h.0, messages_push ms m h.1 size)

pub messages_front : (ms ns : List Message) → AreMessages (ms ++ ns) → AreMessages ms
messages_front [] ns h = tt
messages_front (m ∷ ms) ns h = (h.0, messages_front ms ns h.1)

pub messages_back : (ms ns : List Message) → AreMessages (ms ++ ns) → AreMessages ns
messages_back [] ns h = h
messages_back (m ∷ ms) ns h = messages_back ms ns h.1

-- n messages have at most 32 * n events
pub events_of-length : (ms : List Message) → AreMessages ms → length (events_of ms) ≤ 32 * length ms
events_of-length [] h = omega arith
events_of-length (m ∷ ms) h = omega (arith, length-append m (events_of ms), h.0.1, events_of-length ms h.1)
