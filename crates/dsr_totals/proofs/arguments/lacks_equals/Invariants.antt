use Rattle.std.proofs.Common.{◌≡◌, drop, map}
use Rattle.std.specs.String.{string_bytes}
use Rattle.dsr_totals.specs.CommandLine.{lacks_equals}
use Rattle.dsr_totals.proofs.arguments.lacks_equals.Given as goal

abbrev pub invariant-loop-word : goal.invariant-loop-word
invariant-loop-word l = lacks_equals (map string_bytes l.words) ≡ lacks_equals (drop l.word-index (map string_bytes l.words))
