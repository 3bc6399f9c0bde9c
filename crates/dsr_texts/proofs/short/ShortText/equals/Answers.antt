use Rattle.dsr_texts.proofs.Common.{rules, ◌∙◌}
use Rattle.dsr_texts.proofs.Shorts.{same_in_place}
use Rattle.dsr_texts.proofs.short.ShortText.equals.Goals as goal

pub returns-then-self-other : goal.returns-then-self-other
returns-then-self-other c =
    rw (← c.self.view_is, ← c.other.view_is) (c.same_bytes.ensures ∙ same_in_place _ _ _ _ (search rules) c.self.invariant.1 c.other.invariant.1)
