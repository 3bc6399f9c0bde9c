use Rattle.std.proofs.Common.{◌≡◌, ◌+◌, ◌<◌, ◌≤◌, false, length}
use Rattle.dsr_events.specs.meaning.Orderly.{has_ended}
use Rattle.dsr_relay_tests.proofs.batches.fills_and_empties.Given as goal

abbrev pub invariant-loop-n : goal.invariant-loop-n
invariant-loop-n g l = (has_ended l.feed.sent ≡ false) × (0 < length l.feed.sent) × (length l.feed.sent ≤ length l.fn.feed.sent + l._n)
