use Rattle.dsr_command.proofs.refusals.cannot_replace.Goals as goal

pub returns-clause-told : goal.returns-clause-told
returns-clause-told g c = (c.write_parts.result, rw (c.shown-name.ensures, c.as_str.ensures) at c.write_parts.ensures)
