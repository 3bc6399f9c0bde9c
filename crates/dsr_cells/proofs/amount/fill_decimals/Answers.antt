use Rattle.dsr_cells.proofs.Common.{◌≡◌, ◌+◌, ◌^◌, ◌++◌, ◌∷◌, List, ℕ, arith, rules, drop, ap, sym, ◌∙◌, subst, decimal, drop-set, drop-drop}
use Rattle.dsr_cells.proofs.Elevens.{eleven_digits, eleven_long}
use Rattle.dsr_cells.proofs.amount.fill_decimals.Goals as goal

pub write_digits-requires : goal.write_digits-requires
write_digits-requires c = (omega (arith, eleven_long c.args.units c.requires), search rules)

pub returns : goal.returns
returns c =
    let w = c.write_digits in
    let start : w.result ≡ 52 = omega (arith, w.ensures.start, eleven_long c.args.units c.requires) in
    let digits : drop 52 w.new.buf ≡ decimal (c.args.units + 10 ^ 10) ++ drop 63 c.args.room.now =
    subst (λ at. drop at w.new.buf ≡ decimal (c.args.units + 10 ^ 10) ++ drop 63 c.args.room.now) start w.ensures.written in
    let rest = ap (drop 1) digits ∙ ap (λ ds. drop 1 (ds ++ drop 63 c.args.room.now)) (eleven_digits c.args.units c.requires) in
    drop-set w.new.buf 52 46 (omega arith) ∙ ap (λ (ds : List ℕ). 46 ∷ ds) (sym (drop-drop 1 52 w.new.buf) ∙ rest)
