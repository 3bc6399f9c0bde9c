use Rattle.dsr_records.proofs.Common.{◌∙◌, ◌∷◌, ap, drop, map, sym, cells, cell_in, record_by_row}
use Rattle.dsr_records.specs.inner.Rows.{found_by}
use Rattle.dsr_records.proofs.FirstCells.{some_first, first_of}
use Rattle.dsr_records.proofs.LineChecks.{found}
use Rattle.dsr_records.proofs.checked.check_line.Goals as goal

pub at-name-requires : goal.at-name-requires
at-name-requires c = some_first c.args.line.now c.of-first.result c.of-first.ensures

pub returns-in-Some : goal.returns-in-Some
returns-in-Some c =
    let line = cells c.args.line.now in
    let some = some_first c.args.line.now c.of-first.result c.of-first.ensures in
    let cut = first_of line c.of-first.result c.of-first.ensures some ∙ ap (λ name. name ∷ drop 1 line) (sym c.at-name.ensures) in
    found c.args.layout.now c.args.line.now c.at-name.result.now c.in-Some.role.now (drop 1 line) (found_by c.check_row.result)
    (sym c.has_many_cells.ensures ∙ c.if-has_many_cells.false) cut c.in-Some.ensures
    (c.check_row.ensures ∙ ap (λ places. record_by_row (map (cell_in line) places) c.role-in-Some.inside.kind) c.as_slice.ensures.value
    ∙ ap (λ role. record_by_row (map (cell_in line) role.positions) role.kind) c.role-in-Some.view_is)
