-- Blocks with a member appended, the block without values, and the block that a resource opens.
use Rattle.std.specs.Prelude.{◌≡◌, [], ◌∷◌, ◌++◌}
use Rattle.dsr_events.specs.declared.record.Record.{Record}
use Rattle.dsr_events.specs.declared.record.Resource.{Resource}
use Rattle.dsr_events.specs.declared.record.Usage.{Usage}
use Rattle.dsr_events.specs.declared.record.Record.TheVariants as the
use Rattle.dsr_events.specs.meaning.Blocks.{BlockParts}

-- the block with a work or a usage appended
abbrev pub with_member : BlockParts → Record → BlockParts
with_member b (the.Work w) = record b { works = b.works ++ w ∷ [] }
with_member b (the.Usage u) = record b { usages = b.usages ++ u ∷ [] }
with_member b _ = b

-- a resource without values
abbrev pub empty_resource : Resource
empty_resource = record { block_id = []; isrc = []; titles = []; artists = [] }

-- the block of an empty resource
abbrev pub empty_block : BlockParts
empty_block = record {
  id = [];
  resource = empty_resource;
  works = [];
  usages = [];
}

-- the new block of a resource, without works and usages
abbrev pub OpensBlock : Record → BlockParts → Type 0
OpensBlock (the.Resource r) b = b ≡ record { id = r.block_id; resource = r; works = []; usages = [] }
OpensBlock _ b = ⊥
