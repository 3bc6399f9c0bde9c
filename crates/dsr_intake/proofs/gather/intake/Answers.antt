use Rattle.dsr_intake.proofs.Common.{report_of_texts}
use Rattle.dsr_intake.proofs.gather.intake.Goals as goal

pub returns-in-Ok-clause-report : goal.returns-in-Ok-clause-report
unfolding report_of_texts
returns-in-Ok-clause-report g c = let p = c.in_ok-books.ensures.books in (p.0, p.1, c.in-Ok.ensures _ p.2)
