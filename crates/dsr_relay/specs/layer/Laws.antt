-- The laws of the relays of all files. They hold in every schedule, for any number of files.
use Rattle.std.specs.Prelude.{◌≡◌, ℕ, ◌*◌, ◌≤◌, false, List, ◌++◌, length, map, sum, Some, slice_get}
use Rattle.std.specs.List.{AllByRecursion}
use Rattle.dsr_events.specs.meaning.Orderly.{has_ended}
use Rattle.dsr_relay.specs.layer.Rule.{events_of}
use Rattle.dsr_relay.specs.layer.Lanes.{Lane, Step, file_of, IsPrefix, Happens, Leads, IsFresh}

-- what was taken, followed by the queue, is what was sent, a prefix of the source; and the queue is within its capacity
pub record IsInOrder (lane : Lane) : Type 0 where
  pub in_order : lane.taken ++ events_of lane.queue ≡ lane.sent
  pub of_source : IsPrefix lane.sent lane.source
  pub fits : length lane.queue ≤ lane.capacity

-- after every schedule each lane, still with its source and its capacity, is in order
abbrev pub InEverySchedule : Type 0
InEverySchedule = (first lanes : List Lane) (steps : List Step) → AllByRecursion IsFresh first → Leads first steps lanes
    → AllByRecursion IsInOrder lanes × (map (λ l. l.source) lanes ≡ map (λ l. l.source) first) × (map (λ l. l.capacity) lanes ≡ map (λ l. l.capacity) first)

-- a step of one file does not change the others
abbrev pub LeavesOthers : Type 0
LeavesOthers = (step : Step) (before after : List Lane) (k : ℕ) → Happens step before after → ¬ (k ≡ file_of step) → slice_get after k ≡ slice_get before k

-- as long as the Ended of a file was not taken, a step of that file is possible
abbrev pub IsNeverStuck : Type 0
IsNeverStuck =
    (first lanes : List Lane) (steps : List Step) (k : ℕ) (l : Lane) → AllByRecursion IsFresh first → Leads first steps lanes → slice_get lanes k ≡ Some l
    → has_ended l.taken ≡ false
    → (step : Step) × (next : List Lane) × (file_of step ≡ k) × Happens step lanes next

-- a schedule has at most twice as many steps as the sources have events
abbrev pub IsBounded : Type 0
IsBounded =
    (first lanes : List Lane) (steps : List Step) → AllByRecursion IsFresh first → Leads first steps lanes
    → length steps ≤ 2 * sum (map (λ l. length l.source) first)

-- a schedule that no step can extend has taken all events of every source
abbrev pub IsDelivered : Type 0
IsDelivered =
    (first lanes : List Lane) (steps : List Step) → AllByRecursion IsFresh first → Leads first steps lanes
    → ((step : Step) (next : List Lane) → ¬ Happens step lanes next)
    → map (λ l. l.taken) lanes ≡ map (λ l. l.source) first
