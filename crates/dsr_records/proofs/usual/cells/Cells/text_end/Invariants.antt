use Rattle.dsr_records.proofs.Common.{◌≡◌, ◌-◌, ◌≤◌, true, list_all, chunk, is_shown}
use Rattle.dsr_records.proofs.usual.cells.Cells.text_end.Given as goal

abbrev pub invariant-loop-end : goal.invariant-loop-end
invariant-loop-end l = (l.left.page ≡ l.self.page) × (l.left.end ≡ l.self.end) × (l.self.at ≤ l.left.at)
    × (list_all is_shown (chunk l.self.at (l.left.at - l.self.at) l.self.page.now) ≡ true)

abbrev pub decreases-loop-end : goal.decreases-loop-end
decreases-loop-end l = l.left.end - l.left.at
