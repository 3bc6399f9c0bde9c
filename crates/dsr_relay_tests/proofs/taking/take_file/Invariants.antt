use Rattle.std.proofs.Common.{◌≡◌}
use Rattle.dsr_relay_tests.proofs.taking.take_file.Given as goal

abbrev pub invariant-loop-place : goal.invariant-loop-place
invariant-loop-place g l = l.tap.name ≡ l.fn.tap.name
