-- Events with their places in the file's list of events, and orderly lists of them.
use Rattle.std.specs.Prelude.{ℕ, Bool, true, false, List}
use Rattle.dsr_events.specs.declared.event.EventPart.{EventPart}
use Rattle.std.specs.List.{list_any}
use Rattle.dsr_events.specs.declared.event.EventPart.TheVariants.{Opened, Block, Ended}

pub record Placed : Type 0 where
  pub place : ℕ
  pub part : EventPart

abbrev pub is_ended : EventPart → Bool
is_ended (Opened _) = false
is_ended (Block _) = false
is_ended (Ended _) = true

-- whether an event is Ended
abbrev pub has_ended : List Placed → Bool
has_ended = list_any (λ e. is_ended e.part)
