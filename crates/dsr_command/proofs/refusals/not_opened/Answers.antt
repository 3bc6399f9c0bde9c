use Rattle.dsr_command.proofs.refusals.not_opened.Goals as goal

pub returns-in-CannotOpen-clause-told : goal.returns-in-CannotOpen-clause-told
returns-in-CannotOpen-clause-told g c = rw c.in-CannotOpen.is (rw c.as_str.ensures at c.cannot_open.ensures.told)
