-- The two ends of a relay, and the result of joining them, as contracts see them.
use Rattle.std.specs.Prelude.{Bool, ◌==◌, ◌||◌, if◌then◌else◌, List, [], ◌∷◌, ◌++◌, length}
use Rattle.dsr_events.specs.meaning.Orderly.{Placed, is_ended}
use Rattle.dsr_relay.specs.declared.name.Name.{Name}

-- the batch is sent with this event, since it then has 32 events or ends with Ended
abbrev pub goes_out : List Placed → Placed → Bool
goes_out batch event = is_ended event.part || (length batch == 31)

-- the batch after one more event
abbrev pub batch_after : List Placed → Placed → List Placed
batch_after batch event = if goes_out batch event then [] else batch ++ event ∷ []

-- the relay's name, the events sent, and the last ones of them, which still wait in the batch
pub record FeedView : Type 0 where
  pub name : Name
  pub sent : List Placed
  pub batch : List Placed

-- the relay's name, the events taken, and the events of the last message that were not taken yet
pub record TapView : Type 0 where
  pub name : Name
  pub taken : List Placed
  pub held : List Placed

-- the events taken, and those sent and not taken
pub record SettledView : Type 0 where
  pub taken : List Placed
  pub left : List Placed
