use Rattle.dsr_statement.proofs.Common.{append_assoc, rules, append-nil}
use Rattle.dsr_statement.proofs.LineLemmas.{then, turn}
use Rattle.dsr_statement.proofs.key.put_key_cells.Goals as goal

pub returns : goal.returns
returns g c =
    turn (then c.put_cell.ensures (then c.put_cell-2.ensures (then c.put_cell-3.ensures c.put_cell-4.ensures)))
    (search (rules, append_assoc, append-nil))
