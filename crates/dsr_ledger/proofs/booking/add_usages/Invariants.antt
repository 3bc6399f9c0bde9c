use Rattle.dsr_ledger.proofs.Common.{◌≡◌, ◌≤◌, ◌+◌, ◌*◌, length, ℕ, List, take, Option, option_map, AllByRecursion, WorkParts, Key, SummaryKey, usage_bookings, IsPlanned, IsInRange, tally_at, SameNumbers, state_at, state_with, index_at, tally_plus, key_tally}
use Rattle.dsr_ledger.proofs.booking.add_usages.Given as goal

abbrev pub invariant-loop-i : goal.invariant-loop-i
invariant-loop-i l = record {
  spares : l.fn.spares ≤ l.spares + l.i * (2 + length l.plan.shares.items);
  range : AllByRecursion IsInRange (take l.i l.usages);
  numbers : SameNumbers l.fn.ledger l.ledger;
  index : (id : List ℕ) → index_at l.summaries id ≡ index_at l.fn.summaries id;
  states : (id : List ℕ) → state_at l.summaries id ≡ option_map (state_with id (take l.i l.usages)) (state_at l.fn.summaries id);
  tallies : (isrc : List ℕ) (works : List WorkParts) (place : List ℕ → Option SummaryKey)
      → IsPlanned l.fn.ledger l.fn.summaries place isrc works l.usages l.plan → (q : Key) → tally_at l.ledger q ≡ tally_plus (tally_at l.fn.ledger q)
      (key_tally (usage_bookings place isrc works (take l.i l.usages)) q);
}
