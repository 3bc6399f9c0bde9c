use Rattle.std.proofs.Common.{rules, FitsSigned, ap, ◌∙◌, [], ◌∷◌, ◌++◌}
use Rattle.std.specs.Prelude.{ℤ}
use Rattle.std.specs.Int.{w128}
use Rattle.std.proofs.lemmas.Int.{to_z-of_z}
use Rattle.dsr_statement.specs.meaning.Cells.{amount_cell}
use Rattle.dsr_cells.specs.meaning.Written.{written}
use Rattle.dsr_statement.proofs.Puts.{turn, before_last}
use Rattle.dsr_statement.proofs.cells.put_amount.Goals as goal

pub returns : goal.returns
unfolding amount_cell
returns g c =
    let both = g.met.S.Sink.both in
    let fits : FitsSigned w128 c.args.amount = search rules in
    let f = c.fill_amount-start in
    let text = f.ensures.written ∙ ap (λ (z : ℤ). written z ++ 10 ∷ []) (to_z-of_z w128 c.args.amount fits) in
    turn g.S.Sink.took (both _ _ _ _ _ c.put.ensures c.put-2.ensures)
    (ap (λ t. 9 ∷ t) (before_last f.new.room (written c.args.amount) f.result 10 f.array_long f.ensures.start.1 text))
