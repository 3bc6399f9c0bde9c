use Rattle.std.proofs.Common.{refl}
use Rattle.dsr_statement.specs.meaning.Cells.{Number64}
use Rattle.dsr_statement.specs.declared.line.Line.TheVariants as lines
use Rattle.dsr_statement.proofs.Rows.{read_64, cell_read, text_read}
use Rattle.dsr_statement.proofs.seal.read_layout.Goals as goal

pub returns : goal.returns
returns c = λ d h e.
    let l = lines.Layout d in
    c.layout_of.ensures d (cell_read Number64 c.args.row.now l 1 _ _ d.bytes (read_64 _ _ c.read_u64.ensures) c.at.ensures h e refl refl)
    (text_read c.args.row.now l 2 _ _ c.at-2.ensures e refl)
