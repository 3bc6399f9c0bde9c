use Rattle.dsr_command.proofs.Common.{arith, common_steps}
use Rattle.dsr_command.proofs.arguments.flag_option.Goals as goal

pub returns-clause-rule : goal.returns-clause-rule
returns-clause-rule c = grind (arith, common_steps)
