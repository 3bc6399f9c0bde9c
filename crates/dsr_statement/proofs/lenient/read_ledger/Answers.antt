use Rattle.std.proofs.Common.{refl}
use Rattle.dsr_statement.specs.meaning.Cells.{Usages, Amount, amount_cell}
use Rattle.std.specs.Fmt.{signed_decimal}
use Rattle.dsr_statement.specs.declared.line.Line.TheVariants as lines
use Rattle.dsr_statement.proofs.Rows.{usages_read, amount_read, usages_own, amount_own, cell_read, key_read, own_at, ledger_own}
use Rattle.dsr_statement.proofs.lenient.read_ledger.Goals as goal

pub returns-clause-again : goal.returns-clause-again
returns-clause-again c = λ key u a h e.
    let l = lines.Ledger key u a in
    c.ledger_of.ensures.again key u a (key_read c.args.row.now l _ key c.key_of.ensures e refl)
    (cell_read Usages c.args.row.now l 5 _ _ u (usages_read _ _ c.read_usages.ensures) c.at.ensures h e refl refl)
    (cell_read Amount c.args.row.now l 6 _ _ a (amount_read _ _ c.read_amount.ensures) c.at-2.ensures h e refl refl)

pub returns-clause-own : goal.returns-clause-own
returns-clause-own c = ledger_own c.args.row.now _ c.read_usages.result c.read_amount.result c.ledger_of.result c.requires.count c.requires.name c.key_of.ensures
    (own_at signed_decimal _ _ _ c.at.ensures (usages_own _ _ c.read_usages.ensures)) (own_at amount_cell _ _ _ c.at-2.ensures (amount_own _ _ c.read_amount.ensures)) c.ledger_of.ensures.own
