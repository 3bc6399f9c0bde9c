use Rattle.dsr_statement.proofs.OneLedger.{one_ledger}
use Rattle.dsr_statement.proofs.laws.one_ledger.Goals as goal

pub returns : goal.returns
returns c = one_ledger
