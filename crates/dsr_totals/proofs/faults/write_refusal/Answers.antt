use Rattle.dsr_totals.proofs.faults.write_refusal.Goals as goal

pub returns : goal.returns
returns g c = rw c.format-line.ensures.text at c.write_parts.ensures
