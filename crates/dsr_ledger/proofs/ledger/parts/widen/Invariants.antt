use Rattle.dsr_ledger.proofs.Common.{ℕ, take, AreBelow, part_seats, PartsGrow, HaveParts, AreSeatsBelow}
use Rattle.dsr_ledger.proofs.ledger.parts.widen.Given as goal

abbrev pub invariant-loop-share : goal.invariant-loop-share
invariant-loop-share l = record {
  grows : PartsGrow l.fn.parts.items.items l.parts.items.items;
  below : (n : ℕ) → AreSeatsBelow n l.shares → AreBelow n (part_seats l.fn.parts.items.items) → AreBelow n (part_seats l.parts.items.items);
  wide : HaveParts (take l.share-index l.shares) l.parts.items.items;
}
