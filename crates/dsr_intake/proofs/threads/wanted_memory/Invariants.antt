use Rattle.dsr_intake.proofs.Common.{◌≡◌, ℕ, ◌<◌, false, get_or}
use Rattle.dsr_intake.proofs.threads.wanted_memory.Given as goal

abbrev pub invariant-loop-k : goal.invariant-loop-k
invariant-loop-k g l = (j : ℕ) (d : _) → j < l.k → (get_or l.finished.items j d).memory ≡ false
