use Rattle.dsr_file.proofs.EndLemmas.{no_line_stands}
use Rattle.dsr_file.proofs.reader.FileReader.no_line.Goals as goal

pub returns-clause-stands : goal.returns-clause-stands
returns-clause-stands c = λ layout b es a.
    no_line_stands layout c.args.self.now c.end.new.self c.args.ending b es c.outcome-outcome.result c.end.result a c.requires.none c.outcome-outcome.ensures
    (c.end.ensures.done, c.end.ensures.event) c.end.ensures.same c.end.ensures.place
