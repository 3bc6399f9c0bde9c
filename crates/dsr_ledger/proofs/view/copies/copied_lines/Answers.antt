use Rattle.dsr_ledger.proofs.Common.{ledger}
use Rattle.dsr_ledger.proofs.view.copies.copied_lines.Goals as goal

pub returns : goal.returns
returns c = λ bs stand. c.in_default.ensures.all (ledger bs) c.loop-line.lines (c.loop-line.invariant.given bs stand)
