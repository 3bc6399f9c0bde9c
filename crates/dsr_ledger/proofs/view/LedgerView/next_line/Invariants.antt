use Rattle.dsr_ledger.proofs.Common.{◌≡◌, ◌≤◌, List, Key, HaveGiven, most_left, into_iter_len}
use Rattle.dsr_ledger.proofs.view.LedgerView.next_line.Given as goal

abbrev pub invariant-loop-self : goal.invariant-loop-self
invariant-loop-self l = record {
  books : l.self.books ≡ l.fn.self.books;
  have : (keys : List Key) → HaveGiven l.fn.self keys → HaveGiven l.self keys;
  left : most_left l.self ≤ most_left l.fn.self;
}

abbrev pub decreases-loop-self : goal.decreases-loop-self
decreases-loop-self l = into_iter_len l.self.recordings
