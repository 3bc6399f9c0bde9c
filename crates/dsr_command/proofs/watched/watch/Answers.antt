use Rattle.dsr_command.proofs.Common.{◌≡◌, ◌∙◌, [], sym, map, arith, append_assoc, append-nil, map-append, common_steps, into_iter_items}
use Rattle.dsr_command.proofs.watched.watch.Goals as goal

pub loop-source-preserved : goal.loop-source-preserved
loop-source-preserved g c =
    let was = rw c.in-Some.ensures.steps.0 at c.loop-source.invariant in
    let watched = c.loop-source.watched.items in
    rw (c.in-Ok.ensures.items, map-append (λ w. w.source) watched _, append_assoc (map (λ w. w.source) watched) _ _) was

pub returns : goal.returns
returns g c =
    let none : into_iter_items c.loop-source.source-iterator ≡ [] = grind (arith, common_steps) in
    sym (append-nil (map (λ w. w.source) c.loop-source.watched.items)) ∙ rw none at c.loop-source.invariant
