use Rattle.std.proofs.Common.{◌≡◌, None}
use Rattle.dsr_file.specs.inner.Standing.{ending_told}
use Rattle.example_reader.proofs.drain.Given as goal

abbrev pub invariant-loop : goal.invariant-loop
invariant-loop g l = ending_told l.file ≡ None
