use Rattle.dsr_sums.specs.inner.Totaling.{HaveRead}
use Rattle.dsr_sums.proofs.answer.add_up.Given as goal

abbrev pub invariant-loop-place : goal.invariant-loop-place
invariant-loop-place g l = HaveRead g.R.Source.told l.fn.given l.fn.rules l.place l.fn.sources l.sources l.totaling
