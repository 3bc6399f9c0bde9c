use Rattle.dsr_intake.proofs.collector.collect.Goals as goal

pub returns-in-Ok-clause-report : goal.returns-in-Ok-clause-report
returns-in-Ok-clause-report g c = c.in-Ok.ensures _ c.in_ok-books.ensures.books
