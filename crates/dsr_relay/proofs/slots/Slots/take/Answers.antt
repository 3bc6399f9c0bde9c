use Rattle.dsr_relay.proofs.Common.{arith, common_steps}
use Rattle.dsr_relay.proofs.slots.Slots.take.Goals as goal

pub returns-clause-after : goal.returns-clause-after
returns-clause-after c = (c.take.new.dest, grind (arith, common_steps))
