use Rattle.std.proofs.Common.{refl}
use Rattle.dsr_statement.specs.meaning.Cells.{Number64, Why}
use Rattle.dsr_statement.specs.declared.line.Line.TheVariants as lines
use Rattle.dsr_statement.proofs.Rows.{read_64, cell_read, text_read, reason_read}
use Rattle.dsr_statement.proofs.lenient.read_reject.Goals as goal

pub returns : goal.returns
returns c = λ r h e.
    let l = lines.Reject r in
    c.reject_of.ensures r (cell_read Number64 c.args.row.now l 1 _ _ r.file (read_64 _ _ c.read_u64.ensures) c.at.ensures h e refl refl)
    (cell_read Number64 c.args.row.now l 2 _ _ r.position (read_64 _ _ c.read_u64-2.ensures) c.at-2.ensures h e refl refl)
    (text_read c.args.row.now l 3 _ _ c.at-3.ensures e refl) (cell_read Why c.args.row.now l 4 _ _ r.reason (reason_read _ _ c.reason_named.ensures) c.at-4.ensures h e refl refl)
