use Rattle.dsr_ledger.proofs.Common.{rules, ◌≡◌, ◌<◌, ◌+◌, sym, subst, ap, ◌∙◌, arith, Some, None, map, bytes_eq, place_in, rank_of, Rise}
use Rattle.dsr_ledger.proofs.IdsLemmas.{in_run_at, none_above, not_in_run, rise_before}
use Rattle.dsr_ledger.proofs.file.ids.Ids.is_in_run.Goals as goal

pub search-requires : goal.search-requires
search-requires c =
    let ids = c.args.self.now in let top = ids.top in
    subst (λ xs. Rise (map rank_of xs)) (sym c.as_slice.ensures.value) (rise_before (map rank_of ids.run.items) (top + 1) (ids.rise (top + 1) (omega arith)))

pub returns-in-Some : goal.returns-in-Some
returns-in-Some c =
    let ids = c.args.self.now in let run = ids.run.items in let id = c.args.id.now in let x = c.index.result.now in
    let rise = rise_before (map rank_of run) (ids.top + 1) (ids.rise (ids.top + 1) (omega arith)) in
    let there : place_in (map rank_of run) (rank_of id) ≡ Some c.in-Some.place = search rules in
    let here : c.eq.result ≡ bytes_eq x id = search rules in
    here ∙ ap (λ t. bytes_eq t id) c.index.ensures ∙ sym (in_run_at id run c.in-Some.place x rise there)

pub returns-in-None : goal.returns-in-None
returns-in-None c =
    let run = c.args.self.now.run.items in let id = c.args.id.now in
    let none : place_in (map rank_of run) (rank_of id) ≡ None = search rules in
    sym (not_in_run id run none)

pub returns-then-rank-self : goal.returns-then-rank-self
returns-then-rank-self c =
    let ids = c.args.self.now in let run = ids.run.items in let id = c.args.id.now in
    let above : ids.top < rank_of id = search rules in
    sym (not_in_run id run (none_above (map rank_of run) (rank_of id) (ids.rise (rank_of id) above)))
