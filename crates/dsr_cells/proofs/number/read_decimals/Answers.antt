use Rattle.dsr_cells.proofs.Numbers.{scaled-lt}
use Rattle.dsr_cells.proofs.number.read_decimals.Goals as goal

pub returns-clause-bound : goal.returns-clause-bound
returns-clause-bound c =
    rw c.power_of_ten.ensures.value (scaled-lt _ _ _ c.in_ok-number.ensures.bound c.in_ok-number.ensures.len)
