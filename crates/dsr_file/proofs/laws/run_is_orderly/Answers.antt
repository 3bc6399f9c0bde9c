use Rattle.dsr_file.proofs.RunLemmas.{run_orderly}
use Rattle.dsr_file.proofs.laws.run_is_orderly.Goals as goal

pub returns : goal.returns
returns c = λ layout text events run. run_orderly layout text events run
