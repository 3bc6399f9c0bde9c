use Rattle.dsr_file.proofs.Common.{◌≡◌, ◌≤◌, ◌+◌, ◌-◌, ◌++◌, List, ℕ, length, take, None, LayoutTable, Placed, Stands}
use Rattle.dsr_file.specs.declared.phase.Phase.TheVariants.{Reading}
use Rattle.dsr_file.proofs.reader.FileReader.read.Given as goal

abbrev pub invariant-loop-used : goal.invariant-loop-used
invariant-loop-used l = record {
  bound : l.used ≤ length l.piece;
  reading : l.self.phase ≡ Reading;
  none : l.part ≡ None;
  given : l.self.given ≡ l.fn.self.given + l.used;
  place : l.self.place ≡ l.fn.self.place;
  ending : l.self.ending ≡ l.fn.self.ending;
  stands : (layout : LayoutTable) (b : List ℕ) (es : List Placed) → Stands layout l.fn.self b es → Stands layout l.self (b ++ take l.used l.piece) es;
}

abbrev pub decreases-loop-used : goal.decreases-loop-used
decreases-loop-used l = length l.piece - l.used
