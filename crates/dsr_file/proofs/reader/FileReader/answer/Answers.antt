use Rattle.dsr_file.proofs.StandLemmas.{good_stands}
use Rattle.dsr_file.proofs.reader.FileReader.answer.Goals as goal

pub returns-in-Good-clause-stands : goal.returns-in-Good-clause-stands
returns-in-Good-clause-stands c = λ layout b es a.
    good_stands layout c.args.self.now c.good.new.self c.args.line c.args.step c.args.part.now b es c.in-Good.is a c.good.ensures.rest c.good.ensures.place
    c.requires.reading
