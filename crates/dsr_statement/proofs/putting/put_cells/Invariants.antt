use Rattle.std.proofs.Common.{◌∷◌, take}
use Rattle.std.specs.List.{flat_map}
use Rattle.dsr_statement.specs.meaning.Cells.{cell_text}
use Rattle.dsr_statement.proofs.putting.put_cells.Given as goal

abbrev pub invariant-loop-cell : goal.invariant-loop-cell
invariant-loop-cell g l = g.S.Sink.took l.fn.out (flat_map (λ c. 9 ∷ cell_text c) (take l.cell-index l.cells)) l.out
