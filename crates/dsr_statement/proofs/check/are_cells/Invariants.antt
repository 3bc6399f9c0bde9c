use Rattle.std.proofs.Common.{◌≡◌, take, true}
use Rattle.std.specs.List.{list_all}
use Rattle.dsr_statement.specs.meaning.Cells.{is_cell}
use Rattle.dsr_statement.proofs.check.are_cells.Given as goal

abbrev pub invariant-loop-cell : goal.invariant-loop-cell
invariant-loop-cell l = list_all is_cell (take l.cell-index l.cells) ≡ true
