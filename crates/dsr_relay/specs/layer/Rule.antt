-- The rule of a relay: what holds, between any two steps, of the messages in its channel and of what its ends know.
use Rattle.std.specs.Prelude.{◌<◌, ◌≤◌, List, [], ◌∷◌, ◌++◌, length, ◌≡◌, ℕ}
use Rattle.dsr_events.specs.meaning.Orderly.{Placed}
use Rattle.dsr_events.specs.layer.Orderly.{IsOrderly}
use mathlib.Core.Option.{some}
use lib.ListN.{get_elem?}
use Rattle.dsr_relay.specs.declared.rule.Log.{Log}
use Rattle.dsr_relay.specs.declared.rule.Log.TheVariants.{Fresh, Sends, Takes, Both, Spent}

-- a message, as contracts see it, is the list of its events
abbrev pub Message : Type 0
Message = List Placed

-- the events of the messages, one message after another
abbrev pub events_of : List Message → List Placed
events_of [] = []
events_of (message ∷ messages) = message ++ events_of messages

-- a message has 1 to 32 events
abbrev pub IsMessage : List Placed → Type 0
IsMessage events = (0 < length events) × (length events ≤ 32)

-- each of these is a message
abbrev pub AreMessages : List Message → Type 0
AreMessages [] = Unit {0}
AreMessages (message ∷ messages) = IsMessage message × AreMessages messages

-- a view of pass number `pass` is true: only the pass `feed` sends, and only the pass `tap` receives
module _ (feed tap : ℕ) (out received : List Message) (capacity : ℕ) (pass : ℕ) where
  abbrev pub Knows : Log → Type 0
  Knows Fresh = (pass ≡ feed) × (pass ≡ tap) × (out ≡ [])
  Knows (Sends sent n) = (pass ≡ feed) × (sent ≡ out) × (n ≡ capacity)
  Knows (Takes taken) = (pass ≡ tap) × (taken ≡ received)
  Knows (Both sent taken n) = (pass ≡ feed) × (pass ≡ tap) × (sent ≡ out) × (taken ≡ received) × (n ≡ capacity)
  Knows Spent = Unit {0}

-- the messages received, followed by the queue, are those sent; their events are orderly; the queue is within the
-- capacity; and every view is true
pub record Relayed (queue : List Message) (views : List Log) : Type 0 where
  pub feed : ℕ
  pub tap : ℕ
  pub out : List Message
  pub received : List Message
  pub capacity : ℕ
  pub in_order : out ≡ received ++ queue
  pub orderly : IsOrderly (events_of out)
  pub messages : AreMessages out
  pub fits : length queue ≤ capacity
  pub knows : (pass : ℕ) (v : Log) → get_elem? views pass ≡ some v → Knows feed tap out received capacity pass v

-- the messages sent, as the feed knows them
abbrev pub out_of : Log → List Message
out_of (Sends sent n) = sent
out_of _ = []

-- the messages received, as the tap knows them
abbrev pub received_of : Log → List Message
received_of (Takes taken) = taken
received_of _ = []

-- what the feed and the tap know together
abbrev pub both_of : Log → Log → Log
both_of (Sends sent n) (Takes taken) = Both sent taken n
both_of _ _ = Spent

-- a send: the message is appended to those sent
abbrev pub Goes : Log → Message → Log → Type 0
Goes (Sends sent n) x w = w ≡ Sends (sent ++ x ∷ []) n
Goes _ x w = ⊥

-- a receive: the message is appended to those received, and the events so far are orderly
abbrev pub Comes : Log → Message → Log → Type 0
Comes (Takes taken) x w = (w ≡ Takes (taken ++ x ∷ [])) × IsOrderly (events_of (taken ++ x ∷ [])) × AreMessages (taken ++ x ∷ [])
Comes _ x w = ⊥

-- after both ends were joined: the queue has the messages sent and not received, and is within the capacity
abbrev pub IsLeft : Log → List Message → Type 0
IsLeft (Both sent taken n) queue = (sent ≡ taken ++ queue) × (length queue ≤ n) × AreMessages sent
IsLeft _ queue = ⊥
