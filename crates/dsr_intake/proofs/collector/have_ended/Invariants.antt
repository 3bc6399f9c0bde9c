use Rattle.dsr_intake.proofs.Common.{◌≡◌, ℕ, ◌<◌, true, get_or, has_ended}
use Rattle.dsr_intake.proofs.collector.have_ended.Given as goal

abbrev pub invariant-loop-k : goal.invariant-loop-k
invariant-loop-k l = (j : ℕ) (d : _) → j < l.k → has_ended (get_or l.taps.items j d).taken ≡ true
