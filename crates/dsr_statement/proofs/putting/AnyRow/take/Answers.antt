use Rattle.std.proofs.Common.{◌++◌, ◌∷◌, ap, ◌∙◌}
use Rattle.std.specs.List.{flat_map}
use Rattle.dsr_statement.specs.meaning.Cells.{cell_text}
use Rattle.dsr_statement.specs.meaning.Names.{kind_name}
use Rattle.dsr_statement.proofs.Puts.{turn, joined_cells}
use Rattle.dsr_statement.proofs.putting.AnyRow.take.Goals as goal

pub returns : goal.returns
returns g c =
    turn g.S.Sink.took (g.met.S.Sink.both _ _ _ _ _ c.put.ensures c.put_cells.ensures)
    (ap (λ t. t ++ flat_map (λ x. 9 ∷ cell_text x) c.args.cells.now) (c.as_bytes.ensures.value ∙ c.kind_name.ensures)
    ∙ joined_cells (kind_name c.args.kind) c.args.cells.now)
