use Rattle.dsr_statement.proofs.Common.{rules, arith, FitsSigned, ◌≡◌, ◌-◌, ◌+◌, [], ◌∷◌, ◌++◌, List, ℕ, ap, drop, drop-set, length, length-append, length-drop, slice_set, sym, take, take_all, ◌∙◌, ℤ, w128, to_z-of_z}
use Rattle.dsr_cells.specs.meaning.Written.{written}
use Rattle.dsr_statement.specs.meaning.Cells.{amount_cell}
use Rattle.dsr_statement.proofs.LineLemmas.{turn}
use Rattle.dsr_statement.proofs.pieces.Pieces.put_last_amount.Goals as goal

pub returns : goal.returns
unfolding amount_cell
returns g c =
    let f = c.fill_amount-start in
    let room = f.new.room in let start = f.result in
    let fits : FitsSigned w128 c.args.amount = search rules in
    let rest = f.ensures.written ∙ ap (λ (z : ℤ). written z ++ 10 ∷ []) (to_z-of_z w128 c.args.amount fits) in
    let text = written c.args.amount in
    let at : start - 1 + 1 ≡ start = omega (arith, f.ensures.start.0) in
    let all : drop (start - 1) (slice_set room (start - 1) 9) ≡ 9 ∷ text ++ 10 ∷ [] =
    drop-set room (start - 1) 9 (omega (arith, f.ensures.start.0, f.ensures.start.1, f.array_long))
    ∙ ap (λ (l : List ℕ). 9 ∷ l) (ap (λ n. drop n room) at ∙ rest) in
    let long : 64 - start ≡ length text + 1 =
    sym (omega (arith, length-drop start room, f.array_long)) ∙ ap length rest ∙ length-append text (10 ∷ []) in
    let line = 9 ∷ text ++ 10 ∷ [] in
    let whole = take_all (64 - (start - 1)) line (omega (arith, f.ensures.start.0, f.ensures.start.1, long, length-append text (10 ∷ []))) in
    turn c.put.ensures (ap (take (64 - (start - 1))) all ∙ whole)
