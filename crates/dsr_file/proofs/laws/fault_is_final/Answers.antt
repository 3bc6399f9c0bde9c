use Rattle.dsr_file.proofs.LawLemmas.{fault_is_final_lem}
use Rattle.dsr_file.proofs.laws.fault_is_final.Goals as goal

pub returns : goal.returns
returns c = λ layout b more ending. fault_is_final_lem layout b more ending
