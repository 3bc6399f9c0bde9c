use Rattle.std.proofs.Common.{◌≡◌, ◌∙◌, [], All, arith, map, sym}
use Rattle.std.specs.Vec.Iter.{into_iter_items}
use Rattle.std.proofs.lemmas.Grind.{common_steps}
use Rattle.std.proofs.lemmas.List.{append-nil}
use Rattle.std.proofs.lemmas.List.Elements.{All-push}
use Rattle.dsr.proofs.Digests.{keeps_digest, wrapped_more}
use Rattle.dsr.proofs.sealing.digesting.Goals as goal

pub loop-source-preserved : goal.loop-source-preserved
loop-source-preserved g c =
    let was = rw c.in-Some.ensures.steps.0 at c.loop-source.invariant.inside in
    let made = c.loop-source.made.items in
    record {
      inside = rw c.in-Ok-push.ensures.items (wrapped_more (λ d. d.source) made c.new.result c.in-Some.source _ _ was c.new.ensures.source);
      nothing = rw c.in-Ok-push.ensures.items (All-push (λ d. keeps_digest d []) made c.new.result c.loop-source.invariant.nothing c.new.ensures.nothing);
    }

pub returns-clause-sources : goal.returns-clause-sources
returns-clause-sources g c =
    let none : into_iter_items c.loop-source.source-iterator ≡ [] = grind (arith, common_steps) in
    sym (append-nil (map (λ d. d.source) c.loop-source.made.items)) ∙ rw none at c.loop-source.invariant.inside
