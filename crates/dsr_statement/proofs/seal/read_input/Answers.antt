use Rattle.std.proofs.Common.{refl}
use Rattle.dsr_statement.specs.meaning.Cells.{Number64}
use Rattle.dsr_statement.specs.declared.line.Line.TheVariants as lines
use Rattle.dsr_statement.proofs.Rows.{read_64, cell_read, text_read}
use Rattle.dsr_statement.proofs.seal.read_input.Goals as goal

pub returns : goal.returns
returns c = λ place d h e.
    let l = lines.Input place d in
    c.input_of.ensures place d (cell_read Number64 c.args.row.now l 1 _ _ place (read_64 _ _ c.read_u64.ensures) c.at.ensures h e refl refl)
    (cell_read Number64 c.args.row.now l 2 _ _ d.bytes (read_64 _ _ c.read_u64-2.ensures) c.at-2.ensures h e refl refl)
    (text_read c.args.row.now l 3 _ _ c.at-3.ensures e refl)
