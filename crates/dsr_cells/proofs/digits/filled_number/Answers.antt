use Rattle.dsr_cells.proofs.Common.{ap, bit_xor}
use Rattle.dsr_cells.proofs.Eights.{behind_is}
use Rattle.dsr_cells.proofs.digits.filled_number.Goals as goal

pub returns-clause-value : goal.returns-clause-value
returns-clause-value c =
    behind_is c.args.page.now c.args.at c.args.size c.requires.within c.type_inv.page c.requires.few _
    (ap (λ w. bit_xor w 0x3030_3030_3030_3030) c.word_at-word.ensures) c.read_eight.result c.read_eight.ensures.value c.requires.some
