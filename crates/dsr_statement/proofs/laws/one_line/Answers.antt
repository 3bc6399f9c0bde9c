use Rattle.dsr_statement.proofs.OneLine.{one_line}
use Rattle.dsr_statement.proofs.laws.one_line.Goals as goal

pub returns : goal.returns
returns c = one_line
