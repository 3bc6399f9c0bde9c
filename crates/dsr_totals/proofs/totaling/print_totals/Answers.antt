use Rattle.dsr_totals.proofs.totaling.print_totals.Goals as goal

pub returns : goal.returns
returns g c =
    let wrote = c.write_totals in
    (wrote.result, wrote.ensures.0, wrote.ensures.1, c.status_of.ensures)
