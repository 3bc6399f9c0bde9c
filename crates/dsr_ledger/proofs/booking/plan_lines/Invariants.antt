use Rattle.dsr_ledger.proofs.Common.{◌≡◌, ℕ, List, take, Option, Some, map, Usage, SummaryKey, AreLined, recording_number, KeepsLines, index_at, AreNumbered}
use Rattle.dsr_ledger.proofs.booking.plan_lines.Given as goal

abbrev pub invariant-loop-number : goal.invariant-loop-number
invariant-loop-number l = record {
  keeps : KeepsLines l.fn.ledger l.ledger;
  lined : (isrc : List ℕ) (place : List ℕ → Option SummaryKey) (us : List Usage) → recording_number l.fn.ledger isrc ≡ Some l.recording
      → AreNumbered l.fn.ledger place l.summaries → map (λ u. index_at l.summaries u.summary_id) us ≡ map Some l.numbers
      → AreLined l.ledger place isrc l.shares (take l.number-index us) l.plan.items;
}
