use Rattle.dsr_intake.proofs.Common.{arith, ap, ◌∙◌, common_steps}
use Rattle.dsr_intake.proofs.Joining.{starting_more}
use Rattle.dsr_intake.proofs.gather.start_all.Goals as goal

pub loop-reader-preserved : goal.loop-reader-preserved
loop-reader-preserved g c =
    let s = rw c.in-Some.ensures.steps.0 at c.loop-reader.invariant.started in
    record {
      started = rw (c.in-Ok-push.ensures.items, c.in-Ok.ensures.items)
          (starting_more g.R.Source.told c.args.options.now _ _ _ _ _ _ c.in-Some.reader _ c.in_ok-thread.thread c.in_ok-feed.tap s
          c.in_ok-thread.ensures.promise.0
          (ap (λ f. f.name) c.in_ok-thread.ensures.promise.1 ∙ c.in_ok-feed.ensures.ends.0) c.in_ok-thread.ensures.promise.2 c.in_ok-feed.ensures.ends.2);
      room = grind (arith, common_steps);
      few = grind (arith, common_steps);
    }
