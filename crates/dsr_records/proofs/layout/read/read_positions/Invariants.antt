use Rattle.dsr_records.proofs.Placed.{PlacedTo}
use Rattle.dsr_records.proofs.layout.read.read_positions.Given as goal

abbrev pub invariant-loop-i : goal.invariant-loop-i
invariant-loop-i l = PlacedTo l.line l.columns l.i l.positions.items
