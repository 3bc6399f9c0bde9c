use Rattle.dsr_file.proofs.Common.{◌∙◌, inl}
use Rattle.dsr_file.proofs.StandLemmas.{first_given, all_read, if_none}
use Rattle.dsr_file.proofs.reader.FileReader.take_part.Goals as goal

pub returns-in-Reading-clause-begins : goal.returns-in-Reading-clause-begins
returns-in-Reading-clause-begins c = λ layout b es s. first_given layout c.read.new.self b es _ s (c.read.ensures.ending ∙ c.requires.open)

pub returns-in-Reading-clause-all : goal.returns-in-Reading-clause-all
returns-in-Reading-clause-all c = if_none c.read.new.part (λ e layout b es s. inl (all_read layout c.read.new.self b es s e)) c.read.ensures.reading

pub returns-in-Reading-clause-waiting : goal.returns-in-Reading-clause-waiting
returns-in-Reading-clause-waiting c = λ layout b es s. inl (inl (all_read layout c.args.self.now b es s c.in-Reading.is))
