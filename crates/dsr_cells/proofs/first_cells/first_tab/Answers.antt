use Rattle.dsr_cells.proofs.Cuts.{run_found}
use Rattle.dsr_cells.proofs.first_cells.first_tab.Goals as goal

pub returns-then-run-lt16 : goal.returns-then-run-lt16
returns-then-run-lt16 c = run_found c.args.bytes.now c.run_of_16-run.result c.if-bytes-ge16.true c.run_of_16-run.ensures c.if-run-lt16.true
