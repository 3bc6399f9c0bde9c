use Rattle.dsr_ledger.proofs.Common.{arith, common_steps}
use Rattle.dsr_ledger.proofs.ledger.parts.share_of.Goals as goal

pub returns-in-Ok : goal.returns-in-Ok
returns-in-Ok c = grind (arith, common_steps)

pub returns-in-Err : goal.returns-in-Err
returns-in-Err c = grind (arith, common_steps)

pub overflow_mul-product : goal.overflow_mul-product
overflow_mul-product c = grind (arith, common_steps)

pub nonzero_div-result : goal.nonzero_div-result
nonzero_div-result c = grind (arith, common_steps)
