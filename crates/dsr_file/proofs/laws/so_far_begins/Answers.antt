use Rattle.dsr_file.proofs.LawLemmas.{so_far_begins_lem}
use Rattle.dsr_file.proofs.laws.so_far_begins.Goals as goal

pub returns : goal.returns
returns c = λ layout b more ending. so_far_begins_lem layout b more ending
