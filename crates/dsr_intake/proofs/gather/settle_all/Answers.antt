use Rattle.dsr_intake.proofs.Common.{arith, ◌≡◌, [], common_steps, into_iter_items}
use Rattle.dsr_intake.proofs.Joining.{joining_none, joining_more, joining_done, keeping_none, keeping_more, keeping_done}
use Rattle.dsr_intake.proofs.gather.settle_all.Goals as goal

pub loop-thread-init : goal.loop-thread-init
loop-thread-init g c =
    record {
      joined = rw (c.into_iter-thread-iterator.ensures.into_iter_gives.0, c.into_iter-taps.ensures.rest, c.requires.empty)
          (joining_none g.R.Source.told c.args.options.now _ _ _ c.args.threads.items c.args.taps.items c.requires.names c.requires.terms c.requires.ended);
      keeping = rw (c.into_iter-thread-iterator.ensures.into_iter_gives.0, c.requires.empty)
          (keeping_none g.R.Source.told g.R.Source.holds (λ h. h.promise.reader.value) c.args.threads.items);
      room = grind (arith, common_steps);
    }

pub loop-thread-preserved : goal.loop-thread-preserved
loop-thread-preserved g c =
    let j = rw (c.in-Some.ensures.steps.0, c.in-Some-next.ensures.items) at c.loop-thread.invariant.joined in
    let k = rw c.in-Some.ensures.steps.0 at c.loop-thread.invariant.keeping in
    let met = c.settle-reader.ensures.sent in
    record {
      joined = rw (c.in-Ok.ensures.items, c.settle-reader.ensures.reader)
          (joining_more g.R.Source.told c.args.options.now _ _ _ _ _ c.in-Some.thread _ c.in-Some-next.tap _ _ c.join-finished.result.reader j
          (record {
            sent = c.join-finished.result.feed.sent;
            left = met.0;
            given = c.join-finished.ensures.1;
            meets = met.1;
            orderly = c.settle-reader.ensures.orderly;
          }));
      keeping = rw (c.in-Ok.ensures.items, c.settle-reader.ensures.reader)
          (keeping_more g.R.Source.told g.R.Source.holds (λ h. h.promise.reader.value) _ c.in-Some.thread _ _ c.join-finished.result.reader k
          c.join-finished.ensures.2);
      room = grind (arith, common_steps);
    }

pub returns-clause-texts : goal.returns-clause-texts
returns-clause-texts g c =
    let none : into_iter_items c.loop-thread.thread-iterator ≡ [] = grind (arith, common_steps) in
    joining_done g.R.Source.told c.args.options.now _ _ _ _ _ (into_iter_items c.loop-thread.taps) c.loop-thread.readers.items
    (rw none at c.loop-thread.invariant.joined)

pub returns-clause-held : goal.returns-clause-held
returns-clause-held g c =
    let none : into_iter_items c.loop-thread.thread-iterator ≡ [] = grind (arith, common_steps) in
    keeping_done g.R.Source.told g.R.Source.holds _ _ c.loop-thread.readers.items (rw none at c.loop-thread.invariant.keeping)
