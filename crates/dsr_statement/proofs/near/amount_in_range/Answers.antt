use Rattle.std.proofs.Common.{◌≡◌, ap, sym, ◌∙◌, rules, Some, to_z, of_z}
use Rattle.std.proofs.lemmas.Int.{to_z-of_z}
use Rattle.std.specs.Int.{w128}
use Rattle.dsr_statement.specs.meaning.Cells.{amount_cell}
use Rattle.dsr_statement.specs.inner.Numbers.{amount_in}
use Rattle.dsr_statement.proofs.Rows.{amount_own}
use Rattle.dsr_statement.proofs.near.amount_in_range.Goals as goal

pub returns-in-Some : goal.returns-in-Some
returns-in-Some c =
    let z = c.in-Some.amount in
    let same : to_z w128 (of_z w128 z) ≡ z = to_z-of_z w128 z (search rules) in
    let read : Some z ≡ amount_in c.args.text.now = cc (c.read_amount.ensures, c.in-Some.is) in
    (amount_own c.args.text.now (Some z) read ∙ ap amount_cell (sym same), sym c.is_amount.ensures ∙ c.if-is_amount.true)
