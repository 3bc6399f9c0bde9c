use Rattle.dsr_file.proofs.Common.{◌∙◌, sym}
use Rattle.dsr_file.proofs.reader.FileReader.finish.Goals as goal

pub returns-in-Reading-clause-stands : goal.returns-in-Reading-clause-stands
returns-in-Reading-clause-stands c = λ layout b es s.
    c.finish_lines.ensures.stands layout b es (c.set_ending.ensures.reading (sym c.set_ending.ensures.phase ∙ c.in-Reading.is) layout b es s)
