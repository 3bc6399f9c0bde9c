-- Blocks, as contracts see them.
use Rattle.std.specs.Prelude.{ℕ, List, []}
use Rattle.dsr_events.specs.declared.record.Resource.{Resource}
use Rattle.dsr_events.specs.declared.record.Usage.{Usage}
use Rattle.dsr_events.specs.meaning.Works.{WorkParts}

pub record BlockParts : Type 0 where
  pub id : List ℕ
  pub resource : Resource
  pub works : List WorkParts
  pub usages : List Usage
