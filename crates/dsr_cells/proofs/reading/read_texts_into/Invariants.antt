use Rattle.dsr_cells.proofs.Common.{◌≡◌, ◌++◌, length, map, raw_parts, value_of}
use Rattle.dsr_cells.specs.inner.Parts.{parts_left}
use Rattle.dsr_cells.proofs.reading.read_texts_into.Given as goal

abbrev pub invariant-loop-rest : goal.invariant-loop-rest
invariant-loop-rest l = l.texts ++ map value_of (parts_left l.rest) ≡ map value_of (raw_parts l.cell)

abbrev pub decreases-loop-rest : goal.decreases-loop-rest
decreases-loop-rest l = length (map value_of (parts_left l.rest))
