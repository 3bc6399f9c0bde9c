use Rattle.std.proofs.Common.{refl, ap, drop}
use Rattle.dsr_statement.specs.meaning.Cells.{Number64, FileNumber, Stands}
use Rattle.dsr_statement.specs.meaning.Lines.{line_cells}
use Rattle.dsr_statement.specs.declared.line.Line.TheVariants as lines
use Rattle.dsr_statement.proofs.Rows.{read_64, cell_read, all_behind, standing_read}
use Rattle.dsr_statement.proofs.file.read_file.Goals as goal

pub returns : goal.returns
returns c = λ place f h e.
    let l = lines.File place f in
    c.file_of.ensures place f (cell_read Number64 c.args.row.now l 1 _ _ place (read_64 _ _ c.read_u64.ensures) c.at.ensures h e refl refl)
    (cell_read FileNumber c.args.row.now l 2 _ _ f.number c.read_file_number.ensures c.at-2.ensures h e refl refl)
    (cell_read Stands c.args.row.now l 3 _ _ f.standing (standing_read _ _ c.standing_named.ensures) c.at-3.ensures h e refl refl)
    (cell_read Number64 c.args.row.now l 4 _ _ f.blocks (read_64 _ _ c.read_u64-2.ensures) c.at-4.ensures h e refl refl)
    (c.read_outcome.ensures f.outcome (all_behind (line_cells l) 5 h) (ap (drop 5) e))
