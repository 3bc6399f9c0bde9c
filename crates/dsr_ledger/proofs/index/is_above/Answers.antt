use Rattle.dsr_ledger.proofs.Common.{arith, common_steps, rules, ◌≡◌, ◌-◌, ◌<◌, length, ap, sym, ◌∙◌, subst, map, Some, slice_get, length-map, same_Some, slice_get-map, option_map}
use Rattle.dsr_ledger.proofs.IndexLemmas.{rise_more}
use Rattle.dsr_ledger.proofs.index.is_above.Goals as goal

pub returns-in-Some : goal.returns-in-Some
returns-in-Some g c = λ above rise.
    let number = g.T.Numbered.number_of in let xs = c.args.items.now in let n = c.args.number in
    let there : slice_get xs (length xs - 1) ≡ Some c.in-Some.last.now = search rules in
    let last : slice_get (map number xs) (length (map number xs) - 1) ≡ Some (number c.in-Some.last.now)
    = ap (λ k. slice_get (map number xs) (k - 1)) (length-map xs number) ∙ slice_get-map number xs (length xs - 1) ∙ ap (option_map number) there in
    let below : number c.in-Some.last.now < n = search rules in
    rise_more (map number xs) n rise (λ m at. subst (λ k. k < n) (same_Some (number c.in-Some.last.now) m (sym last ∙ at)) below)

pub returns-in-None : goal.returns-in-None
returns-in-None g c = grind (arith, common_steps)
