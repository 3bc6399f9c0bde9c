use Rattle.dsr_statement.proofs.LineLemmas.{then}
use Rattle.dsr_statement.proofs.pieces.PiecesSink.put.Goals as goal

pub returns-then-keep : goal.returns-then-keep
returns-then-keep g c = rw c.if-keep.true at c.keep.ensures

pub returns : goal.returns
returns g c = then (rw c.if-keep.false at c.keep.ensures) c.put_past.ensures
