use Rattle.dsr_file.proofs.Common.{◌∙◌, sym}
use Rattle.dsr_file.proofs.StandLemmas.{done_told}
use Rattle.dsr_file.proofs.reader.FileReader.done.Goals as goal

pub returns-clause-ended : goal.returns-clause-ended
returns-clause-ended c = λ layout b es s. done_told layout c.args.self.now c.is_done.result (λ t. sym c.is_done.ensures ∙ t) (λ d. c.is_done.ensures ∙ d) b es s
