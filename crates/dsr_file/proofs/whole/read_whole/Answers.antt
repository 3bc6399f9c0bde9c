use Rattle.dsr_file.proofs.Common.{◌≡◌, subst, sym, [], IfOk, Result, Ok, Err, Stands}
use Rattle.dsr_file.proofs.whole.read_whole.Goals as goal

-- what follows for a result that is Ok follows for the one that it is taken from
also_of : {A E F : Type 0} (P Q : A → Type 0) (from : Result A E) (r : Result A F) → IfOk r (λ a. from ≡ Ok a) → IfOk from Q → ((a : A) → Q a → P a) → IfOk r P
also_of P Q from (Ok a) is h f = f a (subst (λ x. IfOk x Q) is h)
also_of P Q from (Err e) is h f = tt

pub returns : goal.returns
returns g c =
    let known = subst (λ es. Stands c.args.layout.now c.in_ok-file.file [] es) (sym c.requires.empty) c.in_ok-file.ensures.stands in
    also_of _ _ c.give_all-answer.result c.without_event.result c.without_event.ensures c.give_all-answer.ensures (λ o h. h c.args.layout.now [] known)
