use Rattle.dsr_relay.proofs.Ways.{gets_as}
use Rattle.dsr_relay.proofs.way.Getter.get.Goals as goal

pub recv_as-requires-clause-rule : goal.recv_as-requires-clause-rule
recv_as-requires-clause-rule g c = (gets_as _ _ c.self.invariant.knows, λ items views h at. tt)

pub try_recv_as-requires-clause-rule : goal.try_recv_as-requires-clause-rule
try_recv_as-requires-clause-rule g c = (gets_as _ _ c.self.invariant.knows, λ items views h at. tt)
