use Rattle.dsr_command.proofs.faults.write_closed.Goals as goal

pub returns : goal.returns
returns g c = rw c.format-file.ensures.text at c.write_parts.ensures
