use Rattle.std.proofs.Common.{◌≡◌, ◌+◌, ◌≤◌, None, length}
use Rattle.dsr_file.specs.inner.Standing.{bytes_used, ending_told}
use Rattle.dsr_calls.proofs.reading.feed.Given as goal

abbrev pub invariant-loop : goal.invariant-loop
invariant-loop g l =
    record {
      within : l.used ≤ length l.piece;
      told : ending_told l.file ≡ None;
      bytes : bytes_used l.file ≡ bytes_used l.initial.file + l.used;
    }
