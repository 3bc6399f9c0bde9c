use Rattle.std.proofs.Common.{◌∙◌, ap, sym, ◌^◌, Some}
use Rattle.dsr_statement.specs.inner.Numbers.{units_in}
use Rattle.dsr_statement.proofs.Signs.{units_cut, units_plain}
use Rattle.dsr_statement.proofs.number.read_units.Goals as goal

pub returns-in-None-clause-value : goal.returns-in-None-clause-value
unfolding units_in
returns-in-None-clause-value c = sym (units_plain (2 ^ 123) c.args.text.now c.in-None.ensures.cut)

pub returns-in-Some-usual_parts-clause-value : goal.returns-in-Some-usual_parts-clause-value
unfolding units_in
returns-in-Some-usual_parts-clause-value c =
    ap Some c.from.ensures ∙ sym c.in-Some-usual_parts.ensures ∙ sym (units_cut (2 ^ 123) c.args.text.now c.in-Some.whole.now c.in-Some.decimals.now c.in-Some.ensures.cut)

pub returns-in-None-usual_parts-clause-value : goal.returns-in-None-usual_parts-clause-value
unfolding units_in
returns-in-None-usual_parts-clause-value c =
    c.read_parts.ensures.value ∙ sym (units_cut (2 ^ 123) c.args.text.now c.in-Some.whole.now c.in-Some.decimals.now c.in-Some.ensures.cut)
