use Rattle.dsr_relay.proofs.Common.{◌∷◌, ◌+◌, take, drop, sym, ap, ◌∙◌, arith, common_steps}
use Rattle.dsr_relay.proofs.Batches.{first_taken}
use Rattle.dsr_relay.proofs.batch.Batch.take_first.Goals as goal

pub returns : goal.returns
returns c =
    let b = c.self.inside in
    let event = c.take-event.result in
    let after = c.take-event.ensures.after in
    sym c.self.view_is
    ∙ first_taken b.slots b.out b.count after.0 event (omega (arith, c.if-self.false, c.self.invariant.0)) c.self.invariant.1 c.take-event.ensures.value
    ∙ ap (λ xs. event ∷ drop (b.out + 1) (take b.count xs)) (sym after.1)

pub returns-then-self : goal.returns-then-self
returns-then-self c = grind (arith, common_steps)
