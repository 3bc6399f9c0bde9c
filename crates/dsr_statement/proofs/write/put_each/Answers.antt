use Rattle.dsr_statement.proofs.Common.{[], ap}
use Rattle.dsr_statement.specs.meaning.Lines.{line_bytes}
use Rattle.dsr_statement.proofs.LineLemmas.{more, all, turn, text_map}
use Rattle.dsr_statement.proofs.write.put_each.Goals as goal

pub loop-item-preserved : goal.loop-item-preserved
loop-item-preserved g c =
    more [] (λ x. line_bytes (g.T.AsLine.line x)) c.args.items.now c.loop-item.item-index c.item-item.result _ c.loop-item-test.true c.item-item.is
    c.loop-item.invariant (turn c.put_line.ensures (ap line_bytes c.as_line.ensures))

pub returns : goal.returns
returns g c =
    turn (all [] (λ x. line_bytes (g.T.AsLine.line x)) c.args.items.now c.loop-item.item-index c.loop-item-test.false c.loop-item.invariant)
    (text_map g.T.AsLine.line c.args.items.now)
