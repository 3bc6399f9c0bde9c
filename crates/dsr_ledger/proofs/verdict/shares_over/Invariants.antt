use Rattle.dsr_ledger.proofs.Common.{◌≡◌, ◌≤◌, ◌+◌, sum, take, share_total}
use Rattle.dsr_ledger.proofs.verdict.shares_over.Given as goal

abbrev pub invariant-loop-share : goal.invariant-loop-share
invariant-loop-share l = record {
  whole : l.total ≤ 1000000;
  so_far : l.total ≡ share_total (take l.work-index l.works) + sum (take l.share-index l.share-items);
}

abbrev pub invariant-loop-work : goal.invariant-loop-work
invariant-loop-work l = record { whole : l.total ≤ 1000000; so_far : l.total ≡ share_total (take l.work-index l.works) }
