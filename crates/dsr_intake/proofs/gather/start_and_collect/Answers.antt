use Rattle.dsr_intake.proofs.Common.{inr}
use Rattle.dsr_intake.proofs.gather.start_and_collect.Goals as goal

pub returns-in-Err-clause-cause : goal.returns-in-Err-clause-cause
returns-in-Err-clause-cause g c = inr (c.in-Err.error, c.in-Err.ensures.stopped, c.collect_error.ensures.same)
