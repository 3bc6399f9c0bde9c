-- The relays of all files as one machine: its states, its steps, and its schedules.
use Rattle.std.specs.Prelude.{◌≡◌, ℕ, ◌<◌, ◌≤◌, true, false, List, [], ◌∷◌, ◌++◌, length, Some, slice_get, slice_set}
use Rattle.dsr_events.specs.meaning.Orderly.{Placed, has_ended}
use Rattle.dsr_events.specs.layer.Orderly.{IsOrderly}
use Rattle.dsr_relay.specs.layer.Rule.{IsMessage}

-- one file: its events, the capacity of its relay, what was sent, the messages in the queue, and what was taken
pub record Lane : Type 0 where
  pub source : List Placed
  pub capacity : ℕ
  pub sent : List Placed
  pub queue : List (List Placed)
  pub taken : List Placed

-- a message is put into the queue of a file, or the front one is taken from it; files are numbered from 0
pub data Step : Type 0 where
  put : ℕ → List Placed → Step
  get : ℕ → Step

abbrev pub file_of : Step → ℕ
file_of (put file message) = file
file_of (get file) = file

abbrev pub IsPrefix : List Placed → List Placed → Type 0
IsPrefix events whole = (rest : List Placed) × (whole ≡ events ++ rest)

-- the queue has room, Ended was not sent, and the message has the next 1 to 32 events of the source
pub record Puts (message : List Placed) (before after : Lane) : Type 0 where
  pub room : length before.queue < before.capacity
  pub going : has_ended before.sent ≡ false
  pub size : IsMessage message
  pub next : IsPrefix (before.sent ++ message) before.source
  pub after_it : after ≡ record before { sent = before.sent ++ message; queue = before.queue ++ message ∷ [] }

-- the front message is taken
pub record Gets (before after : Lane) : Type 0 where
  pub message : List Placed
  pub rest : List (List Placed)
  pub front : before.queue ≡ message ∷ rest
  pub after_it : after ≡ record before { queue = rest; taken = before.taken ++ message }

-- what a step changes in the lane of its file
abbrev pub Moves : Step → Lane → Lane → Type 0
Moves (put file message) = Puts message
Moves (get file) = Gets

-- a step of the machine: one lane moves
pub record Happens (step : Step) (before after : List Lane) : Type 0 where
  pub lane : Lane
  pub moved : Lane
  pub at : slice_get before (file_of step) ≡ Some lane
  pub moves : Moves step lane moved
  pub after_it : after ≡ slice_set before (file_of step) moved

-- a schedule: steps, one after another
abbrev pub Leads : List Lane → List Step → List Lane → Type 0
Leads before [] after = before ≡ after
Leads before (step ∷ steps) after = (next : List Lane) × Happens step before next × Leads next steps after

-- at first nothing is sent, queued or taken; the source is orderly and ends with Ended
pub record IsFresh (lane : Lane) : Type 0 where
  pub orderly : IsOrderly lane.source
  pub ends : has_ended lane.source ≡ true
  pub has_place : 1 ≤ lane.capacity
  pub empty : (lane.sent ≡ []) × (lane.queue ≡ []) × (lane.taken ≡ [])
