use Rattle.dsr_records.proofs.Common.{sym, ap, get_or, option_and_then, position_of}
use Rattle.dsr_events.specs.declared.kinds.Column.TheVariants.{MessageId}
use Rattle.dsr_records.proofs.Placed.{placed_fault}
use Rattle.dsr_records.proofs.layout.read.read_positions.Goals as goal

pub returns-in_err-cell : goal.returns-in_err-cell
returns-in_err-cell c =
    rw c.from_residual.ensures
    (sym (placed_fault c.args.line.now c.args.columns.now c.loop-i.i MessageId c.loop-i.positions.items c.loop-i-test.true
    (ap (option_and_then (position_of (get_or c.args.columns.now c.loop-i.i MessageId))) (sym c.in_err-cell.ensures)) c.loop-i.invariant))
