use Rattle.dsr_statement.proofs.LineLemmas.{then}
use Rattle.dsr_statement.proofs.key.put_cell.Goals as goal

pub returns : goal.returns
returns g c = then c.put.ensures c.put-2.ensures
