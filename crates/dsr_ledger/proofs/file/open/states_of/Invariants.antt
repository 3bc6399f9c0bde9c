use Rattle.dsr_ledger.proofs.Common.{◌≡◌, ℕ, List, [], take, summary_key_named, KeepsKeys, sums_at, found_in, AreNumbered}
use Rattle.dsr_ledger.proofs.file.open.states_of.Given as goal

abbrev pub invariant-loop-summary : goal.invariant-loop-summary
invariant-loop-summary l = record {
  keeps : KeepsKeys l.fn.ledger l.ledger;
  sums : (id : List ℕ) → sums_at l.summaries id ≡ found_in (take l.summary-index l.stated) [] id;
  numbers : AreNumbered l.ledger (summary_key_named (take l.summary-index l.stated)) l.summaries;
}
