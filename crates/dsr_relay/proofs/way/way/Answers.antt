use Rattle.dsr_relay.proofs.Ways.{begins, parts_as}
use Rattle.dsr_relay.proofs.way.way.Goals as goal

pub bounded_with-requires-clause-rule : goal.bounded_with-requires-clause-rule
bounded_with-requires-clause-rule c = begins

pub another-theirs-requires-clause-rule : goal.another-theirs-requires-clause-rule
another-theirs-requires-clause-rule c = parts_as _ _ c.in-Ok.ensures.3
