use Rattle.dsr_statement.proofs.Common.{List, [], flat_map, LedgerLine, Puts}
use Rattle.dsr_statement.specs.inner.Rows.{ledger_bytes}
use Rattle.dsr_ledger.specs.inner.View.{AreGiven, IsReady, most_left}
use Rattle.dsr_statement.proofs.write.put_viewed_lines.Given as goal

abbrev pub invariant-loop-line : goal.invariant-loop-line
invariant-loop-line g l = record {
  ready : IsReady l.view;
  put : (all : List LedgerLine) → AreGiven l.fn.view all []
      → (given : List LedgerLine) × AreGiven l.view all given × Puts g.W.Outlet.told l.fn.out l.out (flat_map ledger_bytes given);
}

abbrev pub decreases-loop-line : goal.decreases-loop-line
decreases-loop-line g l = most_left l.view
