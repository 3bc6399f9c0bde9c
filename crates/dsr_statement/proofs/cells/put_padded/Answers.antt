use Rattle.std.proofs.Common.{rules, ◌∙◌}
use Rattle.dsr_statement.proofs.Puts.{turn, padded}
use Rattle.dsr_statement.proofs.cells.put_padded.Goals as goal

pub returns : goal.returns
returns g c =
    let both = g.met.S.Sink.both in
    turn g.S.Sink.took (both _ _ _ _ _ c.put.ensures c.put-2.ensures)
    (padded c.args.zeros.now c.as_bytes.result.now c.as_bytes-2.result.now c.saturating_sub-pad.result c.args.number c.requires
    (c.as_bytes-2.ensures.value ∙ c.format-digits.ensures.text) (search rules) (search rules))
