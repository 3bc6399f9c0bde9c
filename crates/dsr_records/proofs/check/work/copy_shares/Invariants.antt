use Rattle.dsr_records.proofs.Common.{◌≡◌, take}
use Rattle.dsr_records.proofs.check.work.copy_shares.Given as goal

abbrev pub invariant-loop-share : goal.invariant-loop-share
invariant-loop-share l = l.shares ≡ take l.share-index l.from
