use Rattle.dsr_cells.proofs.Common.{arith, ap, bit_xor}
use Rattle.dsr_cells.proofs.Eights.{before_is}
use Rattle.dsr_cells.proofs.digits.usual_number.Goals as goal

pub returns-clause-value : goal.returns-clause-value
returns-clause-value c =
    before_is c.args.page.now c.args.at c.args.size c.requires c.type_inv.page (omega (arith, c.if-size-gt8.false)) _
    (ap (λ w. bit_xor w 0x3030_3030_3030_3030) c.word_at-word.ensures) c.read_eight.result c.read_eight.ensures.value (omega (arith, c.if-size-eq0.false))
