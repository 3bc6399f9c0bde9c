use Rattle.dsr_command.proofs.Common.{◌≡◌, ◌∙◌, ap, ap₂, Some, pos, codes, rules, Rule, rule_of, option_rule}
use Rattle.std.specs.Int.{int_max, int_min}
use Rattle.clap.specs.Values.{signed_between}
use Rattle.clap.specs.declared.builder.value_parser.ValueParser.TheVariants as vp
use Rattle.dsr_command.proofs.arguments.capacity_option.Goals as goal

pub returns-clause-rule : goal.returns-clause-rule
returns-clause-rule c =
    let given = c.value_parser-2.ensures.given in
    let bounds : c.range.result ≡ signed_between (int_max (pos 0) c.new-2.result.start) (int_min (pos 4294967295) c.new-2.result.end) =
    rw c.value_parser.ensures at c.range.ensures in
    let made : c.range.result ≡ vp.Signed (pos 1) (pos 1024) = bounds
    ∙ ap₂ (λ a b. signed_between (int_max (pos 0) a) (int_min (pos 4294967295) b)) c.new-2.ensures.start c.new-2.ensures.end in
    let parser : c.value_parser-2.result.value_parser ≡ Some (vp.Signed (pos 1) (pos 1024)) = given.1 ∙ ap Some (given.2 ∙ made) in
    let plain : rule_of c.action.result ≡ option_rule (codes "capacity") = search rules in
    let with_parser : Rule → Rule = λ r. record r { parser = Some (vp.Signed (pos 1) (pos 1024)) } in
    ap rule_of c.help.ensures ∙ (ap rule_of c.value_parser-2.ensures.others ∙ (ap (λ p. record (rule_of c.action.result) { parser = p }) parser
    ∙ ap with_parser plain))
