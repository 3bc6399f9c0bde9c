use Rattle.std.proofs.Common.{◌≡◌, ◌+◌, false, length}
use Rattle.dsr_events.specs.meaning.Orderly.{has_ended}
use Rattle.dsr_relay_tests.proofs.sending.send_blocks.Given as goal

abbrev pub invariant-loop-n : goal.invariant-loop-n
invariant-loop-n g l = (has_ended l.feed.sent ≡ false) × (length l.feed.sent ≡ l._n + 1) × (l.feed.name ≡ l.fn.feed.name)
