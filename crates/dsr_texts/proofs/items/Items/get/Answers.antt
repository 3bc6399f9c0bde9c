use Rattle.dsr_texts.proofs.Common.{◌∙◌, ap, slice_get}
use Rattle.dsr_texts.proofs.Lent.{lent_item}
use Rattle.dsr_texts.proofs.items.Items.get.Goals as goal

pub returns : goal.returns
returns g c = lent_item _ _ _ c.get.ensures.lookup ∙ ap (λ l. slice_get l c.args.i) (c.deref.ensures.value ∙ c.self.view_is)
