-- Lists of events that are orderly.
use Rattle.std.specs.Prelude.{ℕ, ◌≡◌, ◌+◌, true, List, length, Some, slice_get}
use Rattle.dsr_events.specs.meaning.Blocks.{BlockParts}
use Rattle.dsr_events.specs.declared.event.EventPart.{EventPart}
use Rattle.dsr_events.specs.declared.event.EventPart.TheVariants.{Opened, Block, Ended}
use Rattle.dsr_events.specs.meaning.Orderly.{Placed, is_ended}

-- the event of a block with this place
abbrev pub block_event : ℕ → BlockParts → Placed
block_event place block = record { place = place; part = Block block }

-- at place 0 there is Opened or Ended, at each later place Block or Ended
abbrev pub MayStandAt : ℕ → EventPart → Type 0
MayStandAt place (Opened _) = place ≡ 0
MayStandAt place (Block _) = ¬ (place ≡ 0)
MayStandAt place (Ended _) = Unit {0}

-- event i has place i and a content that is allowed there, and only the last may be Ended
pub record IsOrderly (events : List Placed) : Type 0 where
  pub places : (i : ℕ) (e : Placed) → slice_get events i ≡ Some e → e.place ≡ i
  pub parts : (i : ℕ) (e : Placed) → slice_get events i ≡ Some e → MayStandAt i e.part
  pub ended_last : (i : ℕ) (e : Placed) → slice_get events i ≡ Some e → is_ended e.part ≡ true → i + 1 ≡ length events
