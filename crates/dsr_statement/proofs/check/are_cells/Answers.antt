use Rattle.std.proofs.Common.{[], ◌∷◌, ◌++◌, true, refl, ap, sym, ◌∙◌, take, take_all}
use Rattle.std.specs.List.{list_all}
use Rattle.std.proofs.lemmas.Bool.{and_from}
use Rattle.std.proofs.lemmas.List.{take_more}
use Rattle.std.proofs.lemmas.List.Folds.{list_all-append, list_all_at}
use Rattle.dsr_statement.specs.meaning.Cells.{is_cell}
use Rattle.dsr_statement.proofs.check.are_cells.Goals as goal

pub loop-cell-preserved : goal.loop-cell-preserved
loop-cell-preserved c =
    let all = c.args.cells.now in let at = c.loop-cell.cell-index in let x = c.cell-item.result in
    ap (list_all is_cell) (take_more all at x c.loop-cell-test.true ∙ ap (λ y. take at all ++ y ∷ []) (sym c.cell-item.is))
    ∙ list_all-append is_cell (take at all) (x ∷ [])
    ∙ and_from _ _ c.loop-cell.invariant (and_from (is_cell x) true (sym c.is_cell.ensures ∙ c.if-not-is_cell.false) refl)

pub returns-then-not-is_cell : goal.returns-then-not-is_cell
returns-then-not-is_cell c =
    sym (list_all_at is_cell c.args.cells.now c.loop-cell.cell-index c.cell-item.result c.loop-cell-test.true
    (ap is_cell (sym c.cell-item.is) ∙ sym c.is_cell.ensures ∙ c.if-not-is_cell.true))

pub returns : goal.returns
returns c = sym (ap (list_all is_cell) (sym (take_all c.loop-cell.cell-index c.args.cells.now c.loop-cell-test.false)) ∙ c.loop-cell.invariant)
