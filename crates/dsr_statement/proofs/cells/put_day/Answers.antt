use Rattle.std.proofs.Common.{rules, append_assoc}
use Rattle.dsr_statement.proofs.Puts.{turn}
use Rattle.dsr_statement.proofs.cells.put_day.Goals as goal

pub returns : goal.returns
returns g c =
    let both = g.met.S.Sink.both in
    turn g.S.Sink.took (both _ _ _ _ _ c.put.ensures (both _ _ _ _ _ c.put_padded.ensures (both _ _ _ _ _ c.put-2.ensures (both _ _ _ _ _ c.put_padded-2.ensures (both _ _ _ _ _ c.put-3.ensures (c.put_padded-3.ensures)))))) (search (rules, append_assoc))
