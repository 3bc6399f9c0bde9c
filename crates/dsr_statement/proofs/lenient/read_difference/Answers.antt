use Rattle.std.proofs.Common.{refl}
use Rattle.dsr_statement.specs.meaning.Cells.{Number64, Usages, Amount}
use Rattle.dsr_statement.specs.declared.line.Line.TheVariants as lines
use Rattle.dsr_statement.proofs.Rows.{read_64, usages_read, amount_read, cell_read, text_read}
use Rattle.dsr_statement.proofs.lenient.read_difference.Goals as goal

pub returns : goal.returns
returns c = λ d h e.
    let l = lines.Summary d in
    c.difference_of.ensures d (cell_read Number64 c.args.row.now l 1 _ _ d.file (read_64 _ _ c.read_u64.ensures) c.at.ensures h e refl refl) (text_read c.args.row.now l 2 _ _ c.at-2.ensures e refl)
    (cell_read Usages c.args.row.now l 3 _ _ d.stated_usages (usages_read _ _ c.read_usages.ensures) c.at-3.ensures h e refl refl)
    (cell_read Usages c.args.row.now l 4 _ _ d.found_usages (usages_read _ _ c.read_usages-2.ensures) c.at-4.ensures h e refl refl)
    (cell_read Amount c.args.row.now l 5 _ _ d.stated_amount (amount_read _ _ c.read_amount.ensures) c.at-5.ensures h e refl refl)
    (cell_read Amount c.args.row.now l 6 _ _ d.found_amount (amount_read _ _ c.read_amount-2.ensures) c.at-6.ensures h e refl refl)
