use Rattle.std.proofs.Common.{◌∙◌, ap₂}
use Rattle.std.proofs.lemmas.Result.{IfOk-weaker}
use Rattle.clap.specs.Words.{with_rule}
use Rattle.dsr_totals.specs.CommandLine.{command_line}
use Rattle.dsr_totals.proofs.arguments.command_with.Goals as goal

pub returns : goal.returns
unfolding command_line
returns c = λ paid.
    let one = c.in_ok-arg.ensures.shape c.requires ∙ ap₂ with_rule c.bare.ensures paid in
    let two = c.in_ok-arg-2.ensures.shape c.list_option.ensures.local ∙ ap₂ with_rule one c.list_option.ensures.rule in
    let three = c.in_ok-arg-3.ensures.shape c.flag_option.ensures.local ∙ ap₂ with_rule two c.flag_option.ensures.rule in
    let four = c.in_ok-arg-4.ensures.shape c.flag_option-2.ensures.local ∙ ap₂ with_rule three c.flag_option-2.ensures.rule in
    let five = c.in_ok-arg-5.ensures.shape c.flag_option-3.ensures.local ∙ ap₂ with_rule four c.flag_option-3.ensures.rule in
    let six = c.in_ok-arg-6.ensures.shape c.output_option.ensures.local ∙ ap₂ with_rule five c.output_option.ensures.rule in
    IfOk-weaker c.arg-7.result _ _ (λ command h. h.shape c.names_argument.ensures.local ∙ ap₂ with_rule six c.names_argument.ensures.rule)
    c.arg-7.ensures
