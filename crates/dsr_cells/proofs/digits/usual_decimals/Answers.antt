use Rattle.dsr_cells.proofs.Common.{arith}
use Rattle.dsr_cells.proofs.Decimals.{decimals_are, filled_small}
use Rattle.dsr_cells.proofs.digits.usual_decimals.Goals as goal

pub returns-clause-value : goal.returns-clause-value
returns-clause-value c =
    decimals_are c.args.page.now c.args.at c.args.size c.in_ok-front.front c.late_digit-ninth.result c.late_digit-tenth.result c.requires c.type_inv.page
    (omega (arith, c.if-size-eq0.false)) (omega (arith, c.if-size-gt10.false)) (rw c.min.ensures at c.in_ok-front.ensures.value)
    c.late_digit-ninth.ensures.digit c.late_digit-tenth.ensures.digit (omega (arith, c.if-ninth-gt9.false)) (omega (arith, c.if-tenth-gt9.false))

pub returns-clause-bound : goal.returns-clause-bound
returns-clause-bound c = filled_small 10 _ _ (returns-clause-value c)
