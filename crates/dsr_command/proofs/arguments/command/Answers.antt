use Rattle.dsr_command.proofs.Common.{◌∙◌, ap₂, with_rule, command_line}
use Rattle.std.proofs.lemmas.Result.{IfOk-weaker}
use Rattle.dsr_command.proofs.arguments.command.Goals as goal

pub returns : goal.returns
unfolding command_line
returns c =
    let two = c.in_ok-arg-2.ensures.shape c.reads_option.ensures.local
    ∙ ap₂ with_rule (c.in_ok-arg.ensures.shape c.capacity_option.ensures.local ∙ ap₂ with_rule c.bare.ensures c.capacity_option.ensures.rule)
    c.reads_option.ensures.rule in
    let three = c.in_ok-arg-3.ensures.shape c.layout_option.ensures.local ∙ ap₂ with_rule two c.layout_option.ensures.rule in
    let four = c.in_ok-arg-4.ensures.shape c.output_option.ensures.local ∙ ap₂ with_rule three c.output_option.ensures.rule in
    let five = c.in_ok-arg-5.ensures.shape c.flag_option.ensures.local ∙ ap₂ with_rule four c.flag_option.ensures.rule in
    let six = c.in_ok-arg-6.ensures.shape c.flag_option-2.ensures.local ∙ ap₂ with_rule five c.flag_option-2.ensures.rule in
    IfOk-weaker c.arg-7.result _ _ (λ command h. h.shape c.names_argument.ensures.local ∙ ap₂ with_rule six c.names_argument.ensures.rule)
    c.arg-7.ensures
