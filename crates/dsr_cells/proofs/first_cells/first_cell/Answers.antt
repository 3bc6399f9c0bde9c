use Rattle.dsr_cells.proofs.Common.{◌∷◌, ◌∙◌, sym, subst, Some, None, List, ℕ, IsFirstByte, is_byte, cells}
use Rattle.dsr_cells.proofs.Cuts.{first_found, none_found}
use Rattle.dsr_cells.proofs.first_cells.first_cell.Goals as goal

pub returns-in-Some : goal.returns-in-Some
returns-in-Some c =
    let found = subst (λ (text : List ℕ). IsFirstByte (is_byte 9) text (Some c.in-Some.place)) c.as_bytes.ensures.value c.in-Some.ensures in
    first_found c.args.line.now c.in-Some.place found
    ∙ (λ i. sym c.around.ensures.before i ∷ cells (sym c.around.ensures.behind i))

pub returns-in-None : goal.returns-in-None
returns-in-None c = none_found c.args.line.now (subst (λ (text : List ℕ). IsFirstByte (is_byte 9) text None) c.as_bytes.ensures.value c.in-None.ensures)
