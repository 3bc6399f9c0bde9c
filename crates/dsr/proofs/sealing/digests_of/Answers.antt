use Rattle.std.proofs.Common.{◌≡◌, [], arith}
use Rattle.std.specs.Vec.Iter.{into_iter_items}
use Rattle.std.proofs.lemmas.Grind.{common_steps}
use Rattle.dsr.proofs.Digests.{digested_all, digested_more, digested_none, keeps_digest}
use Rattle.dsr.proofs.sealing.digests_of.Goals as goal

pub loop-source-init : goal.loop-source-init
loop-source-init g c =
    record {
      digested = rw (c.into_iter-source-iterator.ensures.into_iter_gives.0, c.requires.empty) (digested_none keeps_digest c.args.sources.items);
      room = grind (arith, common_steps);
    }

pub loop-source-preserved : goal.loop-source-preserved
loop-source-preserved g c =
    let was = rw c.in-Some.ensures.steps.0 at c.loop-source.invariant.digested in
    record {
      digested = rw c.in-Ok.ensures.items
          (digested_more keeps_digest c.args.sources.items c.in-Some.source _ c.into_digest.result c.loop-source.digests.items was c.into_digest.ensures);
      room = grind (arith, common_steps);
    }

pub returns : goal.returns
returns g c =
    let none : into_iter_items c.loop-source.source-iterator ≡ [] = grind (arith, common_steps) in
    digested_all keeps_digest c.args.sources.items c.loop-source.digests.items (rw none at c.loop-source.invariant.digested)
