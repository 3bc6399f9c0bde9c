use Rattle.dsr_ledger.proofs.Common.{bookings, report_of}
use Rattle.dsr_ledger.proofs.closed.ClosedBooks.report.Goals as goal

pub returns-clause-report : goal.returns-clause-report
unfolding report_of
returns-clause-report c = λ files h. record { others = h.report; ledger = c.in_ok-of.ensures.none_given (bookings files) h.ledger }
