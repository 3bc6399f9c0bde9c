use Rattle.dsr_intake.proofs.Common.{arith, common_steps}
use Rattle.dsr_intake.proofs.Joining.{joined_more}
use Rattle.dsr_intake.proofs.gather.join_all.Goals as goal

pub loop-thread-preserved : goal.loop-thread-preserved
loop-thread-preserved g c =
    let was = rw c.in-Some.ensures.steps.0 at c.loop-thread.invariant.names in
    record {
      names = rw c.in-Ok.ensures.items (joined_more (λ f. f.feed.name) (λ h. h.promise.feed.value.name) _ c.in-Some.thread _ _ _ was c.join-done.ensures.0);
      room = grind (arith, common_steps);
    }
