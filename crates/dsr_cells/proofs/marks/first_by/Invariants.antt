use Rattle.dsr_cells.proofs.Common.{◌-◌}
use Rattle.dsr_cells.proofs.RawParts.{PlainTo}
use Rattle.dsr_cells.proofs.marks.first_by.Given as goal

abbrev pub invariant-loop-at : goal.invariant-loop-at
invariant-loop-at g l = PlainTo l.bytes l.at

abbrev pub decreases-loop-at : goal.decreases-loop-at
decreases-loop-at g l = l.last - l.at
