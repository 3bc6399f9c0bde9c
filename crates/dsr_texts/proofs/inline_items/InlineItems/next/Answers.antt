use Rattle.dsr_texts.proofs.Common.{inl}
use Rattle.dsr_texts.proofs.Views.{set_one_more}
use Rattle.dsr_texts.proofs.inline_items.InlineItems.next.Goals as goal

pub returns : goal.returns
returns g c =
    (λ j. inl (c.last_mut.result.ghost_name, λ w. set_one_more _ _ w c.in_ok-lengthen.ensures j), record { writes_back = tt })
