use Rattle.dsr_cells.proofs.Eights.{eight_digits}
use Rattle.dsr_cells.proofs.digits.read_eight.Goals as goal

pub returns-clause-value : goal.returns-clause-value
returns-clause-value c bytes is =
    eight_digits c.args.word c.number_of_eight.result c.are_below_ten.result bytes is c.are_below_ten.ensures c.if-not-are_below_ten.false
    c.number_of_eight.ensures.value
