use Rattle.dsr_records.proofs.Common.{◌∙◌, ap, sym, arith, eqb, count_trailing_zeros, chunk, trailing_mask_l, leading_from_mask_l, length-chunk}
use Rattle.dsr_records.proofs.usual.point.point_in_16.Goals as goal

pub returns-then-points-eq0 : goal.returns-then-points-eq0
returns-then-points-eq0 c =
    let run = chunk c.args.at 16 c.args.page.now in
    sym (leading_from_mask_l (λ b. eqb b 46) run (sym c.points_in_16-points.ensures ∙ c.if-points-eq0.true) ∙ length-chunk c.args.at 16 c.args.page.now c.requires)

pub returns-else-points-eq0 : goal.returns-else-points-eq0
returns-else-points-eq0 c =
    let run = chunk c.args.at 16 c.args.page.now in
    ap (count_trailing_zeros 64) c.points_in_16-points.ensures
    ∙ trailing_mask_l (λ b. eqb b 46) 64 run (omega (arith, length-chunk c.args.at 16 c.args.page.now c.requires))
    (omega (arith, c.points_in_16-points.ensures, c.if-points-eq0.false))
