-- The final value of a boxed block that is lent.
use Rattle.std.specs.Borrow.{Lends, Fml, MutBor}
use Rattle.dsr_events.specs.meaning.Blocks.{BlockParts}
use Rattle.dsr_events.specs.contracts.boxed.BoxedBlock.{the_row}
use Rattle.dsr_events.specs.contracts.block.Block.{the_row as block_row}

-- once the borrow r ends, the boxed block is the final value of r
abbrev pub lends_block : MutBor BlockParts → MutBor BlockParts → Fml
lends_block s r = Lends the_row block_row s r (λ w. w)
