use Rattle.dsr_ledger.proofs.Common.{◌≡◌, All, Some, take, keys_of, bytes_eq, get, lent}
use Rattle.dsr_ledger.proofs.view.sorted.sorted_recordings.Given as goal

abbrev pub invariant-loop-number : goal.invariant-loop-number
invariant-loop-number l = record {
  keys : keys_of (lent l.list.items) ≡ keys_of (take l.number-index l.number-items);
  own : All (λ e. get bytes_eq l.recordings e.0 ≡ Some e.1) (lent l.list.items);
}
