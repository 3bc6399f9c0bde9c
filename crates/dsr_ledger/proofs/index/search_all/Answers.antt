use Rattle.dsr_ledger.proofs.Common.{arith, common_steps, rules, ◌≡◌, None, Some, map, sym, ap, ◌∙◌, subst, drop-map, Rise, place_in}
use Rattle.dsr_ledger.proofs.IndexLemmas.{found_first, found_later}
use Rattle.dsr_ledger.proofs.index.search_all.Goals as goal

pub search_rising-requires : goal.search_rising-requires
search_rising-requires g c =
    let number = g.T.Numbered.number_of in
    subst Rise (drop-map number 16 c.args.items.now ∙ sym (ap (map number) c.behind.ensures)) c.requires

pub returns-in-Some : goal.returns-in-Some
returns-in-Some g c = found_first g.T.Numbered.number_of c.args.number 16 c.in-Some.place c.args.items.now (search rules)

pub returns-in_err-place : goal.returns-in_err-place
returns-in_err-place g c =
    let number = g.T.Numbered.number_of in let behind = ap (λ xs. place_in (map number xs) c.args.number) c.behind.ensures in
    let there : None ≡ place_in (map number c.behind.result.now) c.args.number = search rules in
    let none : c.from_residual.result ≡ None = search rules in
    none ∙ found_later number c.args.number 16 c.args.items.now None (search rules) (there ∙ behind)

pub returns : goal.returns
returns g c =
    let number = g.T.Numbered.number_of in let behind = ap (λ xs. place_in (map number xs) c.args.number) c.behind.ensures in
    let there : Some c.in_ok-place.place ≡ place_in (map number c.behind.result.now) c.args.number = search rules in
    found_later number c.args.number 16 c.args.items.now (Some c.in_ok-place.place) (search rules) (there ∙ behind)

pub overflow_add-result : goal.overflow_add-result
overflow_add-result g c = grind (arith, common_steps)
