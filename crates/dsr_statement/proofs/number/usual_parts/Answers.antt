use Rattle.std.proofs.Common.{lit≤, ◌^◌, ◌∙◌, sym}
use Rattle.dsr_statement.proofs.Numbers.{parts_by_words}
use Rattle.dsr_statement.proofs.number.usual_parts.Goals as goal

pub returns : goal.returns
returns c =
    parts_by_words (2 ^ 123) c.args.text.now c.args.whole.now c.args.decimals.now c.in_ok-front.front c.in_ok-units.units (lit≤ tt) c.requires.text c.requires.ten
    (sym c.leads_with_zero.ensures ∙ c.if-leads_with_zero.false) (rw c.as_bytes.ensures.value at c.in_ok-front.ensures.value) c.in_ok-front.ensures.bound
    (rw c.as_bytes-2.ensures.value at c.in_ok-units.ensures.value)
