use Rattle.std.proofs.Common.{◌≡◌, ◌+◌, ◌-◌, sym, subst, length, take, drop, length-drop, arith}
use Rattle.std.proofs.lemmas.List.{take_all}
use Rattle.dsr_totals.specs.Steps.{IsCutAt}
use Rattle.dsr_totals.proofs.Listing.{cut_found, cut_nowhere}
use Rattle.dsr_totals.proofs.lists.cut.Goals as goal

pub returns-in-Some : goal.returns-in-Some
returns-in-Some c =
    let bytes = c.args.bytes.now in let next = c.in-Some.place + 1 in
    let all : take (length bytes - next) (drop next bytes) ≡ drop next bytes = take_all _ (drop next bytes) (omega (arith, length-drop next bytes)) in
    subst (IsCutAt c.args.end bytes (take c.in-Some.place bytes)) (sym all) (cut_found c.args.end bytes c.in-Some.place (sym c.in-Some.ensures.place))

pub returns-in-None : goal.returns-in-None
returns-in-None c = cut_nowhere c.args.end c.args.bytes.now (sym c.in-None.ensures.place)
