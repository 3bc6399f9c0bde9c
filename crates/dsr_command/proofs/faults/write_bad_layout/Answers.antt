use Rattle.dsr_command.proofs.faults.write_bad_layout.Goals as goal

pub returns : goal.returns
returns g c = rw (c.format-line.ensures.text, c.layout_fault_name-name.ensures) at c.write_parts.ensures
