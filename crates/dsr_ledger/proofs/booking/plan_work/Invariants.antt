use Rattle.dsr_ledger.proofs.Common.{◌≡◌, ℕ, List, take, Some, zip, recording_number, seat_at, KeepsSeats, SeatedMore}
use Rattle.dsr_ledger.proofs.booking.plan_work.Given as goal

abbrev pub invariant-loop-i : goal.invariant-loop-i
invariant-loop-i l = record {
  keeps : KeepsSeats l.fn.ledger l.ledger;
  seated : (isrc : List ℕ) → recording_number l.fn.ledger isrc ≡ Some l.recording
      → SeatedMore (seat_at l.ledger isrc) l.fn.plan.items l.plan.items (take l.i (zip l.work.parties l.work.shares));
}
