use Rattle.dsr_relay.proofs.Common.{◌≡◌, ◌+◌, ◌≤◌, length}
use Rattle.std.proofs.Common.{vec_capacity}
use Rattle.dsr_relay.proofs.memory.rooms.Given as goal

abbrev pub invariant-loop : goal.invariant-loop
invariant-loop l = (length l.rooms.items ≡ l.counter) × (l.batches + 8 ≤ vec_capacity l.rooms)
