use Rattle.dsr_ledger.proofs.Common.{bookings, report_of}
use Rattle.dsr_ledger.proofs.closed.ClosedBooks.into_report.Goals as goal

pub returns : goal.returns
unfolding report_of
returns c = λ files h.
    let copied = c.in_ok-lines.ensures (bookings files) h.ledger in
    λ i. record (h.report i) { ledger = copied i }
