use Rattle.dsr_texts.proofs.Common.{refl, ◌∙◌, arith}
use Rattle.std.proofs.lemmas.Grind.{common_steps}
use Rattle.dsr_texts.proofs.Views.{take-set_last, take-last}
use Rattle.dsr_texts.proofs.inline_items.InlineItems.last_mut.Goals as goal

pub returns : goal.returns
returns g c =
    let some = rw (← c.self.view_is) at c.requires in
    rw (← c.self.view_is) (
      (refl, λ w. take-set_last _ _ w some c.self.invariant),
      record { writes_back = tt; value = c.in-Some.ensures.value ∙ take-last _ _ _ some c.self.invariant },
    )

pub overflow_sub-last : goal.overflow_sub-last
overflow_sub-last g c = grind (arith, common_steps)

pub unreachable-requires : goal.unreachable-requires
unreachable-requires g c = grind (arith, common_steps)

pub invariant_of-self-lent : goal.invariant_of-self-lent
invariant_of-self-lent g c = grind (arith, common_steps)
