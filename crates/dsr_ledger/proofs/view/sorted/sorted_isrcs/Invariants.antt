use Rattle.dsr_ledger.proofs.Common.{◌≡◌, ◌++◌, All, Some, keys_of, bytes_eq, index_of}
use Rattle.dsr_ledger.proofs.view.sorted.sorted_isrcs.Given as goal

abbrev pub invariant-loop-isrc : goal.invariant-loop-isrc
invariant-loop-isrc l = record {
  keys : keys_of l.list.items ++ keys_of l.isrc-iterator ≡ keys_of l.recordings.entries;
  own : All (λ e. index_of bytes_eq l.recordings e.0 ≡ Some e.1) l.list.items;
}
