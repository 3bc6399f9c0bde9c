use Rattle.dsr_ledger.proofs.Common.{◌≡◌, ◌≤◌, ◌+◌, ℕ, List, take, Option, map, owed_in, owed_plus, owed_for, part_seats, part_of, HaveSeats}
use Rattle.dsr_ledger.proofs.ledger.parts.Parts.add.Given as goal

abbrev pub invariant-loop-share : goal.invariant-loop-share
invariant-loop-share l = record {
  spares : l.fn.spares ≤ l.spares + l.share-index;
  seats : part_seats l.parts ≡ part_seats l.fn.self.items.items;
  owed : (n : ℕ) (seat : List ℕ → Option ℕ) (es : List (List ℕ × ℕ)) → HaveSeats seat n l.shares es → (q : List ℕ) → owed_in l.parts (seat q)
      ≡ owed_plus (owed_in l.fn.self.items.items (seat q)) (owed_for q (map (part_of l.amount) (take l.share-index es)));
}
