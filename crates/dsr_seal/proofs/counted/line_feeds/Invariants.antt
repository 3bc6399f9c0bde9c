use Rattle.std.proofs.Common.{◌≡◌, take}
use Rattle.dsr_seal.specs.meaning.Counts.{line_feeds}
use Rattle.dsr_seal.proofs.counted.line_feeds.Given as goal

abbrev pub invariant-loop-byte : goal.invariant-loop-byte
invariant-loop-byte l = l.count ≡ line_feeds (take l.byte-index l.bytes)
