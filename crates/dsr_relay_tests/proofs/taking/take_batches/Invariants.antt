use Rattle.std.proofs.Common.{◌≡◌}
use Rattle.dsr_relay_tests.proofs.taking.take_batches.Given as goal

abbrev pub invariant-loop : goal.invariant-loop
invariant-loop g l = l.tap.name ≡ l.fn.tap.name
