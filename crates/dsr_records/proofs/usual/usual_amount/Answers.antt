use Rattle.dsr_records.proofs.Common.{◌∙◌, ap, arith, sym, Some}
use Rattle.dsr_records.proofs.UsualLines.{amount_is}
use Rattle.dsr_records.proofs.usual.usual_amount.Goals as goal

pub returns : goal.returns
returns c =
    let cell = c.args.cell in
    amount_is cell.page.now cell.at cell.size c.point_in_16-point.result c.in_ok-whole.whole c.in_ok-decimals.decimals cell.behind
    (omega (arith, c.if-point-cell.false)) c.point_in_16-point.ensures c.in_ok-whole.ensures.value c.in_ok-decimals.ensures.value
    ∙ ap Some (sym c.of_parts.ensures)
