use Rattle.std.proofs.Common.{ap, sym, ◌∙◌}
use Rattle.dsr_cells.specs.meaning.Cells.{cells}
use Rattle.dsr_statement.specs.meaning.Readings.{or_spelling}
use Rattle.dsr_statement.proofs.Again.{wrong_cells, cells_fit, is_read, not_both, own_text, kind_text, spelling_fault}
use Rattle.dsr_statement.proofs.reading.read_row.Goals as goal

pub returns-then-not-has_cells-clause-only : goal.returns-then-not-has_cells-clause-only
returns-then-not-has_cells-clause-only c = λ l s.
    let fit = cells_fit c.args.text.now c.args.row.now c.args.kind l c.requires.row c.requires.kind s in
    not_both _ fit (sym c.has_cells.ensures ∙ c.if-not-has_cells.true)

pub returns-then-not-has_cells-clause-fault : goal.returns-then-not-has_cells-clause-fault
returns-then-not-has_cells-clause-fault c =
    sym (ap or_spelling (wrong_cells (cells c.args.text.now) c.args.row.now c.args.kind c.requires.row c.requires.kind
    (sym c.has_cells.ensures ∙ c.if-not-has_cells.true)))

pub returns-clause-only : goal.returns-clause-only
returns-clause-only c = λ l s.
    c.if_spelled.ensures.only l s
    (is_read c.args.text.now c.args.row.now c.args.kind c.read_kind.result c.requires.row c.requires.kind c.read_kind.ensures.again l s)

pub returns-clause-fault : goal.returns-clause-fault
returns-clause-fault c =
    spelling_fault c.args.text.now c.args.row.now c.args.kind c.if_spelled.result c.requires.row c.requires.kind (sym c.has_cells.ensures ∙ c.if-not-has_cells.false)
    c.if_spelled.ensures.fault

pub read_kind-requires-clause-name : goal.read_kind-requires-clause-name
read_kind-requires-clause-name c = kind_text _ c.args.kind c.requires.kind

pub if_spelled-requires : goal.if_spelled-requires
if_spelled-requires c = λ hot. own_text c.args.text.now c.args.row.now c.read_kind.result c.requires.row (c.read_kind.ensures.own (sym c.is_hot.ensures ∙ hot))
