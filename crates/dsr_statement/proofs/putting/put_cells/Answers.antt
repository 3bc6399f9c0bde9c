use Rattle.std.proofs.Common.{◌∷◌, ap, take_all}
use Rattle.std.specs.List.{flat_map}
use Rattle.dsr_statement.specs.meaning.Cells.{cell_text}
use Rattle.dsr_statement.proofs.Puts.{turn, flat_more}
use Rattle.dsr_statement.proofs.putting.put_cells.Goals as goal

pub loop-cell-init : goal.loop-cell-init
loop-cell-init g c = g.met.S.Sink.none _

pub loop-cell-preserved : goal.loop-cell-preserved
loop-cell-preserved g c =
    turn g.S.Sink.took (g.met.S.Sink.both _ _ _ _ _ c.loop-cell.invariant c.put_cell.ensures)
    (flat_more (λ x. 9 ∷ cell_text x) c.args.cells.now c.loop-cell.cell-index _ _ c.loop-cell-test.true c.cell-item.is)

pub returns : goal.returns
returns g c =
    turn g.S.Sink.took c.loop-cell.invariant
    (ap (flat_map (λ x. 9 ∷ cell_text x)) (take_all c.loop-cell.cell-index c.args.cells.now c.loop-cell-test.false))
