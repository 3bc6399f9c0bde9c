use Rattle.dsr_command.proofs.Common.{arith, common_steps}
use Rattle.dsr_command.proofs.arguments.copy_names.Goals as goal

pub loop-word-preserved : goal.loop-word-preserved
loop-word-preserved c = grind (arith, common_steps)
