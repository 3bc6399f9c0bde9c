use Rattle.dsr.proofs.running.run_printed.Goals as goal

pub returns : goal.returns
returns g c =
    let run = c.run_inputs-out in
    (run.result.1, run.ensures.0, run.ensures.1, c.status_of-status.ensures)
