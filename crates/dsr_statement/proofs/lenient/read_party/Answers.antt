use Rattle.std.proofs.Common.{refl}
use Rattle.dsr_statement.specs.meaning.Cells.{Amount}
use Rattle.dsr_statement.specs.declared.line.Line.TheVariants as lines
use Rattle.dsr_statement.proofs.Rows.{amount_read, cell_read, text_read, key_read}
use Rattle.dsr_statement.proofs.lenient.read_party.Goals as goal

pub returns : goal.returns
returns c = λ key p h e.
    let l = lines.Party key p in
    c.party_of.ensures.again key p (key_read c.args.row.now l _ key c.key_of.ensures e refl) (text_read c.args.row.now l 5 _ _ c.at.ensures e refl)
    (cell_read Amount c.args.row.now l 6 _ _ p.amount (amount_read _ _ c.read_amount.ensures) c.at-2.ensures h e refl refl)
