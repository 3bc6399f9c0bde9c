use Rattle.dsr_texts.proofs.Shorts.{copied_zeros, copied_utf8}
use Rattle.dsr_texts.proofs.short.ShortText.copy_of.Goals as goal

pub invariant_of-result : goal.invariant_of-result
invariant_of-result c = (
  c.requires,
  copied_zeros _ _ _ c.as_bytes.ensures.value c.copy_short.ensures.rest,
  copied_utf8 _ _ _ c.as_bytes.ensures.value c.copy_short.ensures.front ∣ c.utf8.text ∣₁,
)
