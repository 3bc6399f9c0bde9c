use Rattle.dsr_ledger.proofs.Common.{◌≡◌, ℕ, List, take, Some, recording_number, seat_at, KeepsSeats, SeatedMore, shares_of}
use Rattle.dsr_ledger.proofs.booking.plan_works.Given as goal

abbrev pub invariant-loop-work : goal.invariant-loop-work
invariant-loop-work l = record {
  keeps : KeepsSeats l.fn.ledger l.ledger;
  seated : (isrc : List ℕ) → recording_number l.fn.ledger isrc ≡ Some l.recording
      → SeatedMore (seat_at l.ledger isrc) l.fn.plan.items l.plan.items (shares_of (take l.work-index l.works));
}
