use Rattle.dsr_texts.proofs.Shorts.{copied_zeros, copied_utf8}
use Rattle.dsr_texts.proofs.short.ShortText.assign.Goals as goal

pub invariant_of-self : goal.invariant_of-self
invariant_of-self c = (
  c.requires,
  copied_zeros _ _ _ c.as_bytes.ensures.value c.copy_short.ensures.rest,
  copied_utf8 _ _ _ c.as_bytes.ensures.value c.copy_short.ensures.front ∣ c.utf8.text ∣₁,
)
