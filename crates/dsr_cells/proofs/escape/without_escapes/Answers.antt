use Rattle.dsr_cells.proofs.Common.{None, Some, lit<, ap, ◌∙◌, rules, ◌++◌, arith, common_steps, string_bytes, split_parts}
use Rattle.dsr_cells.proofs.Escapes.{unescape_step, unescape_end}
use Rattle.dsr_cells.proofs.escape.without_escapes.Goals as goal

pub loop-front-preserved : goal.loop-front-preserved
loop-front-preserved c =
    let cut = split_parts 92 c.loop-front.rest.now (Some (c.in-Some.front, c.in-Some.after)) c.in-Some.ensures.cases (lit< tt) in
    record {
      text = search rules;
      value =
          unescape_step (string_bytes c.loop-front.value) c.in-Some.front.now c.in-Some.after.now c.after_backslash-character.result.1.now c.loop-front.rest.now
          _
          (string_bytes c.push_str.new.self) _ _ cut.0 cut.1 c.after_backslash-character.ensures.value c.in_ok-push_str.ensures.bytes
          (c.in_ok-push.ensures.bytes ∙ ap (λ t. string_bytes c.push_str.new.self ++ t) (c.in_ok-push.ensures.ascii c.after_backslash-character.ensures.ascii))
          c.loop-front.invariant.value;
    }

pub returns : goal.returns
returns c =
    let none = split_parts 92 c.loop-front.rest.now None c.in_default.ensures.cases (lit< tt) in
    let whole = unescape_end (string_bytes c.loop-front.value) c.loop-front.rest.now _ _ none c.in_ok-push_str-2.ensures.bytes c.loop-front.invariant.value in
    rw whole at c.of_string.ensures

pub loop-front-init : goal.loop-front-init
loop-front-init c = grind (arith, common_steps)

pub loop-front-smaller : goal.loop-front-smaller
loop-front-smaller c = grind (arith, common_steps)

pub returns-in_err-push_str-2 : goal.returns-in_err-push_str-2
returns-in_err-push_str-2 c = grind (arith, common_steps)
