use Rattle.dsr_ledger.proofs.Common.{◌≡◌, take, ◌-ℤ◌, int_sum_by}
use Rattle.dsr_ledger.proofs.view.unclaimed.Given as goal

abbrev pub invariant-loop-line : goal.invariant-loop-line
invariant-loop-line l = l.left ≡ l.fn.amount -ℤ int_sum_by (λ p. p.amount) (take l.line-index l.parties)
