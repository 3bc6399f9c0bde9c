use Rattle.dsr_cells.proofs.Common.{arith, rules}
use Rattle.dsr_cells.proofs.RawParts.{few_raw_parts}
use Rattle.dsr_cells.proofs.reading.count_values.Goals as goal

pub overflow_add-count : goal.overflow_add-count
overflow_add-count c = omega (arith, few_raw_parts c.args.cell.now)

pub loop-part-init : goal.loop-part-init
loop-part-init c = search rules
