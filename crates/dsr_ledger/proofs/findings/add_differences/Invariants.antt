use Rattle.dsr_ledger.proofs.Common.{◌≡◌, ◌++◌, take, differences_to}
use Rattle.dsr_ledger.proofs.findings.add_differences.Given as goal

abbrev pub invariant-loop-summary : goal.invariant-loop-summary
invariant-loop-summary l = l.differences ≡ l.fn.differences ++ differences_to l.place l.summaries (take l.summary-index l.stated)
