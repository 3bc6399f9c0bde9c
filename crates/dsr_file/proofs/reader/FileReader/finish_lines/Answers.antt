use Rattle.dsr_file.proofs.Common.{subst, Some, AtLines}
use Rattle.dsr_file.proofs.reader.FileReader.finish_lines.Goals as goal

pub returns-in-Whole-clause-stands : goal.returns-in-Whole-clause-stands
returns-in-Whole-clause-stands c = λ layout b es a.
    c.last_line.ensures.stands layout b es (subst (λ x. AtLines layout c.args.self.now (Some x) b es) c.in-Whole.is a)
