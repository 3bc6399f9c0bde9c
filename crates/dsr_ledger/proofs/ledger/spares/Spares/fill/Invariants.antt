use Rattle.dsr_ledger.proofs.Common.{◌-◌, length}
use Rattle.dsr_ledger.proofs.ledger.spares.Spares.fill.Given as goal

abbrev pub decreases-loop-alloc : goal.decreases-loop-alloc
decreases-loop-alloc l = l.count - length l.self-inside.boxes.items
