use Rattle.dsr_ledger.proofs.Common.{rules, ◌<◌, ◌++◌, ◌∷◌, [], ap, sym, subst, ◌∙◌, refl, arith, map, map_push, list_any, list_any-append, nat_list_eq_equiv, bytes_eq, Rise, number_of_id, rank_of}
use Rattle.indexmap.specs.IndexSet.{contains}
use Rattle.dsr_ledger.proofs.IdsLemmas.{number_more, rise_after}
use Rattle.dsr_ledger.proofs.file.ids.Ids.add.Goals as goal

pub returns-then-add_number : goal.returns-then-add_number
returns-then-add_number c = λ q.
    let old = c.args.self.now in let new = c.add_number.new.self in let id = c.args.id in let m = c.add_number.ensures.more c.if-add_number.true in
    let more = number_more id q m.0 (sym c.requires.number ∙ m.1) old new (number_of_id q) refl m.2 in
    grind (arith, more, ap (λ r. list_any (bytes_eq q) r.items) c.add_number.ensures.run, ap (λ r. contains bytes_eq r q) c.add_number.ensures.rest)

pub invariant_of-self : goal.invariant_of-self
invariant_of-self c =
    let was = c.add_number.new.self in let id = c.args.id in
    let above : was.top < rank_of id = search rules in
    let pushed = ap (map rank_of) c.push_reserved.ensures.items ∙ map_push rank_of was.run.items id in
    record {
      rise = λ n less. subst (λ rs. Rise (rs ++ n ∷ [])) (sym pushed)
          (rise_after (map rank_of was.run.items) (rank_of id) n (was.rise (rank_of id) above) (subst (λ r. r < n) c.rank-rank.ensures less));
    }

pub returns-then-rank-self : goal.returns-then-rank-self
returns-then-rank-self c = λ q.
    let old = c.args.self.now in let id = c.args.id in let same = c.add_number.ensures.same c.if-add_number.false (number_of_id q) in
    let items = c.push_reserved.ensures.items ∙ ap (λ r. r.items ++ id ∷ []) c.add_number.ensures.run in
    let run = ap (list_any (bytes_eq q)) items ∙ list_any-append (bytes_eq q) old.run.items (id ∷ []) in
    grind (arith, same, run, nat_list_eq_equiv.symm q id, ap (λ r. contains bytes_eq r q) c.add_number.ensures.rest)
