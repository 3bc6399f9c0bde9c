use Rattle.dsr_command.proofs.refusals.cannot_open.Goals as goal

pub returns-clause-told : goal.returns-clause-told
returns-clause-told g c = (c.write_parts.result, rw c.shown.ensures at c.write_parts.ensures)
