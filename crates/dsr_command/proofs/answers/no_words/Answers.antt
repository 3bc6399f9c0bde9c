use Rattle.dsr_command.proofs.answers.no_words.Goals as goal

pub returns-in-NotUtf8-clause-told : goal.returns-in-NotUtf8-clause-told
returns-in-NotUtf8-clause-told g c = rw c.in-NotUtf8.is c.refuse.ensures.told
