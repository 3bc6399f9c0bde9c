use Rattle.dsr_cells.proofs.Common.{arith, common_steps}
use Rattle.dsr_cells.proofs.Spelled.{written_total}
use Rattle.dsr_cells.proofs.written.write_amount.Goals as goal

pub returns-in_err-extend_from_slice-clause-spelling : goal.returns-in_err-extend_from_slice-clause-spelling
returns-in_err-extend_from_slice-clause-spelling c = written_total c.args.total c.ranges.total

pub returns-clause-spelling : goal.returns-clause-spelling
returns-clause-spelling c = written_total c.args.total c.ranges.total

pub returns-clause-value : goal.returns-clause-value
returns-clause-value c = grind (arith, common_steps)
