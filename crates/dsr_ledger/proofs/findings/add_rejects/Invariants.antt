use Rattle.dsr_ledger.proofs.Common.{◌≡◌, ◌++◌}
use Rattle.dsr_ledger.proofs.findings.add_rejects.Given as goal

abbrev pub invariant-loop-reject : goal.invariant-loop-reject
invariant-loop-reject l = l.rejects ++ l.reject-iterator.rest.items ≡ l.fn.rejects ++ l.fn.more.items
