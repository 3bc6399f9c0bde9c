use Rattle.dsr_cells.proofs.Common.{◌∙◌, ◌+◌, ◌%◌, ◌^◌, ap, sym, bit_and, eqb-true}
use Rattle.dsr_cells.proofs.Eights.{below_ten_8}
use Rattle.dsr_cells.proofs.digits.are_below_ten.Goals as goal

pub returns-then-word-eq0 : goal.returns-then-word-eq0
returns-then-word-eq0 c a b d e f g h k A B D E F G H K is passes =
    below_ten_8 a b d e f g h k A B D E F G H K (ap (λ w. bit_and w 0x8080_8080_8080_8080) (sym is) ∙ c.if-word-eq0.true)
    (ap (λ w. bit_and ((w + 0x7676_7676_7676_7676) % 2 ^ 64) 0x8080_8080_8080_8080) (sym is) ∙ eqb-true _ _ passes)
