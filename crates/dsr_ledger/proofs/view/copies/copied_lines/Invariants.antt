use Rattle.dsr_ledger.proofs.Common.{List, Booking, LedgerStands, ledger, AreGiven, most_left}
use Rattle.dsr_ledger.specs.inner.View.{IsReady}
use Rattle.dsr_ledger.proofs.view.copies.copied_lines.Given as goal

abbrev pub invariant-loop-line : goal.invariant-loop-line
invariant-loop-line l = record {
  ready : IsReady l.view;
  given : (bs : List Booking) → LedgerStands l.books bs → AreGiven l.view (ledger bs) l.lines;
}

abbrev pub decreases-loop-line : goal.decreases-loop-line
decreases-loop-line l = most_left l.view
