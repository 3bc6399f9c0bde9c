use Rattle.dsr_command.proofs.refusals.layout_refused.Goals as goal

pub returns-in-CannotOpen-clause-told : goal.returns-in-CannotOpen-clause-told
returns-in-CannotOpen-clause-told g c = rw c.in-CannotOpen.is c.cannot_open.ensures.told

pub returns-in-Read-clause-told : goal.returns-in-Read-clause-told
returns-in-Read-clause-told g c = rw c.in-Read.is c.cannot_read.ensures.told
