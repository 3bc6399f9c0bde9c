use Rattle.std.proofs.Common.{refl}
use Rattle.dsr_statement.specs.meaning.Cells.{Number32, OnDay}
use Rattle.dsr_statement.specs.declared.line.Line.TheVariants as lines
use Rattle.dsr_statement.proofs.Rows.{read_32, cell_read, text_read, day_read}
use Rattle.dsr_statement.proofs.lenient.read_report.Goals as goal

pub returns : goal.returns
returns c = λ k h e.
    let l = lines.Report k in
    c.report_of.ensures k (text_read c.args.row.now l 1 _ _ c.at.ensures e refl)
    (cell_read Number32 c.args.row.now l 2 _ _ k.number_of_files (read_32 _ _ c.read_u32.ensures) c.at-2.ensures h e refl refl)
    (cell_read OnDay c.args.row.now l 3 _ _ k.first_day (day_read _ _ c.read.ensures) c.at-3.ensures h e refl refl)
    (cell_read OnDay c.args.row.now l 4 _ _ k.last_day (day_read _ _ c.read-2.ensures) c.at-4.ensures h e refl refl)
