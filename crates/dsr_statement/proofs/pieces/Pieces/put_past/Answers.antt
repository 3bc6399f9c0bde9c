use Rattle.dsr_statement.proofs.LineLemmas.{then}
use Rattle.dsr_statement.proofs.pieces.Pieces.put_past.Goals as goal

pub returns-then-keep : goal.returns-then-keep
returns-then-keep g c = then c.send_waiting.ensures.nothing (rw c.if-keep.true at c.keep.ensures)

pub returns : goal.returns
returns g c = then c.send_waiting.ensures.nothing (then (rw c.if-keep.false at c.keep.ensures) c.send_past.ensures)
