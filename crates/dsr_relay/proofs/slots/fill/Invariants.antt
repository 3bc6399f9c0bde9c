use Rattle.dsr_relay.proofs.Common.{◌≡◌, length}
use Rattle.dsr_relay.proofs.slots.fill.Given as goal

abbrev pub invariant-loop : goal.invariant-loop
invariant-loop l = length l.array.items ≡ l.counter
