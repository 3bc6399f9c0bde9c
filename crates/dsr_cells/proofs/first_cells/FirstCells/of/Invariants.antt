use Rattle.dsr_cells.proofs.Common.{◌≡◌, ◌++◌, map, length, shadow, Utf8, cells}
use Rattle.dsr_cells.proofs.first_cells.FirstCells.of.Given as goal

abbrev pub invariant-loop-index : goal.invariant-loop-index
invariant-loop-index l = record {
  text : shadow (Utf8 l.rest);
  count : length l.cells.items ≡ l.index;
  cut : map (λ c. c.now) l.cells.items ++ cells l.rest ≡ cells l.line;
}
