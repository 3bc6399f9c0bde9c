use Rattle.dsr_records.proofs.Common.{◌≡◌, ◌+◌, ◌≤◌, length, with_lines, empty_layout, pieces_left}
use Rattle.dsr_records.proofs.layout.read.read_lines.Given as goal

abbrev pub invariant-loop-rest : goal.invariant-loop-rest
invariant-loop-rest l =
    (with_lines l.line (pieces_left l.rest) l.layout ≡ with_lines 1 (pieces_left l.text) empty_layout) × (l.line + length l.rest ≤ 65537)

abbrev pub decreases-loop-rest : goal.decreases-loop-rest
decreases-loop-rest l = length l.rest
