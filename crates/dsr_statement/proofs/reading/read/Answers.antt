use Rattle.std.proofs.Common.{◌<◌, ℕ, List, length, subst, sym, ap, ◌∙◌}
use Rattle.dsr_statement.specs.meaning.Faults.{kind_in}
use Rattle.dsr_statement.proofs.Again.{some_cells, kind_found, not_none}
use Rattle.dsr_statement.proofs.reading.read.Goals as goal

pub at-requires : goal.at-requires
at-requires c = subst (λ (row : List (List ℕ)). 0 < length row) (sym c.of-row.ensures) (some_cells c.args.text.now)

pub returns-in-None-clause-only : goal.returns-in-None-clause-only
returns-in-None-clause-only c = λ l s.
    let found = kind_found c.args.text.now c.of-row.result l c.of-row.ensures s in
    not_none _ _ found (ap kind_in (sym c.at.ensures) ∙ sym c.kind_named.ensures ∙ c.in-None.is)
