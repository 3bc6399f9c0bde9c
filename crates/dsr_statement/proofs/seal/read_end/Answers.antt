use Rattle.std.proofs.Common.{refl}
use Rattle.dsr_statement.specs.meaning.Cells.{Number64, StatusName}
use Rattle.dsr_statement.specs.declared.line.Line.TheVariants as lines
use Rattle.dsr_statement.proofs.Rows.{read_64, cell_read, status_read}
use Rattle.dsr_statement.proofs.seal.read_end.Goals as goal

pub returns : goal.returns
returns c = λ n s h e.
    let l = lines.End n s in
    c.end_of.ensures n s (cell_read Number64 c.args.row.now l 1 _ _ n (read_64 _ _ c.read_u64.ensures) c.at.ensures h e refl refl)
    (cell_read StatusName c.args.row.now l 2 _ _ s (status_read _ _ c.status_named.ensures) c.at-2.ensures h e refl refl)
