use Rattle.dsr_cells.proofs.Common.{◌≡◌, ◌+◌, length, raw_parts}
use Rattle.dsr_cells.proofs.reading.count_values.Given as goal

abbrev pub invariant-loop-part : goal.invariant-loop-part
invariant-loop-part l =
    (goal.iterator-loop-part).can_next l._part-iterator × (goal.iterator-loop-part).is_finite l._part-iterator
    × (l.count + length l._part-iterator ≡ length (raw_parts l.cell))
