use Rattle.dsr_relay.proofs.Ways.{gives_as}
use Rattle.dsr_relay.proofs.way.Giver.give.Goals as goal

pub try_send_as-requires-clause-rule : goal.try_send_as-requires-clause-rule
try_send_as-requires-clause-rule g c = (gives_as _ _ _ _ c.self.invariant.knows, λ items views h at. tt)
