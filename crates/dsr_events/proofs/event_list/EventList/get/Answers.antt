use Rattle.std.proofs.Common.{◌∙◌, ap, slice_get}
use Rattle.dsr_texts.proofs.Lent.{lent_item}
use Rattle.dsr_events.proofs.event_list.EventList.get.Goals as goal

pub returns : goal.returns
returns c = lent_item _ _ _ c.get.ensures.item ∙ ap (λ l. slice_get l c.args.i) c.self.view_is
