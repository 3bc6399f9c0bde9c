use Rattle.std.proofs.Common.{◌≡◌, false, All}
use Rattle.dsr_tests.proofs.capacities.readers_of.Given as goal

abbrev pub invariant-loop-text : goal.invariant-loop-text
invariant-loop-text l = All (λ r. r.failed ≡ false) l.readers.items
