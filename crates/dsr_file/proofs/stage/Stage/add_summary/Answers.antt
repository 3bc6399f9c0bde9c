use Rattle.dsr_file.proofs.Common.{◌≡◌, ap, sym, subst, false, list_any, bytes_eq, HasDistinctIds, IsNew}
use Rattle.dsr_file.proofs.OpeningLemmas.{distinct_push, pushed}
use Rattle.dsr_file.proofs.stage.Stage.add_summary.Goals as goal

pub invariant_of-opening : goal.invariant_of-opening
invariant_of-opening c =
    let s = c.in_ok-summary.summary in
    let new = subst (λ x. IsNew x s.id) c.in-Front.is (subst (λ t. IsNew c.args.self.now t.id) (sym c.in_ok-summary.ensures) c.requires) in
    pushed HasDistinctIds c.push.result s c.push.new.self _ _ c.push.ensures.pushed
    (distinct_push c.opening.inside.summaries s c.opening.invariant
    (subst (λ ss. list_any (λ t. bytes_eq t.id s.id) ss ≡ false) (sym (ap (λ o. o.summaries) c.opening.view_is)) new)) c.opening.invariant
