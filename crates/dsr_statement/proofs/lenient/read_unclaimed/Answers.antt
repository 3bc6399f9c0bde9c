use Rattle.std.proofs.Common.{refl}
use Rattle.dsr_statement.specs.meaning.Cells.{Amount}
use Rattle.dsr_statement.specs.declared.line.Line.TheVariants as lines
use Rattle.dsr_statement.proofs.Rows.{amount_read, cell_read, key_read}
use Rattle.dsr_statement.proofs.lenient.read_unclaimed.Goals as goal

pub returns : goal.returns
returns c = λ key a h e.
    let l = lines.Unclaimed key a in
    c.unclaimed_of.ensures.again key a (key_read c.args.row.now l _ key c.key_of.ensures e refl)
    (cell_read Amount c.args.row.now l 5 _ _ a (amount_read _ _ c.read_amount.ensures) c.at.ensures h e refl refl)
