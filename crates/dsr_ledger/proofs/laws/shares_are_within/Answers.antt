use Rattle.dsr_ledger.proofs.LawLemmas.{are_within}
use Rattle.dsr_ledger.proofs.laws.shares_are_within.Goals as goal

pub returns : goal.returns
returns c = λ files. are_within files
