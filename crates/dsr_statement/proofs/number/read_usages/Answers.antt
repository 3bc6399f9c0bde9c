use Rattle.std.proofs.Common.{lit<, ◌∙◌, sym, ap, ◌^◌, ◌+◌, Some, None}
use Rattle.std.specs.Prelude.{pos, neg_ℤ}
use Rattle.std.specs.Option.{option_map}
use Rattle.std.proofs.lemmas.Str.Pattern.{strip_prefix_char}
use Rattle.dsr_statement.specs.inner.Numbers.{usages_in, number_in, not_zero}
use Rattle.dsr_statement.proofs.Signs.{signed_plain, signed_minus}
use Rattle.dsr_statement.proofs.number.read_usages.Goals as goal

pub returns-in-Some : goal.returns-in-Some
unfolding usages_in
returns-in-Some c =
    let sign = strip_prefix_char 45 c.args.text.now (Some c.in-Some.rest) c.in-Some.ensures.cases (lit< tt) in
    c.negative.ensures ∙ ap (λ n. option_map (λ m. neg_ℤ (pos m)) (not_zero n)) c.read_below.ensures.value
    ∙ sym (signed_minus number_in (2 ^ 127 + 1) (2 ^ 127) c.args.text.now c.in-Some.rest.now sign)

pub returns-in-None : goal.returns-in-None
unfolding usages_in
returns-in-None c =
    let no_sign = strip_prefix_char 45 c.args.text.now None c.in-None.ensures.cases (lit< tt) in
    c.positive.ensures ∙ ap (option_map pos) c.read_below-in-None.ensures.value
    ∙ sym (signed_plain number_in (2 ^ 127 + 1) (2 ^ 127) c.args.text.now no_sign)
