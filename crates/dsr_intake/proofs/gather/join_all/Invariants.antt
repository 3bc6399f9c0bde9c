use Rattle.dsr_intake.proofs.Common.{◌≡◌, ◌+◌, ◌≤◌, ◌++◌, map, vec_len, vec_capacity, into_iter_items, into_iter_len}
use Rattle.dsr_intake.proofs.gather.join_all.Given as goal

abbrev pub invariant-loop-thread : goal.invariant-loop-thread
invariant-loop-thread g l =
    record {
      names : map (λ f. f.feed.name) l.finished.items ++ map (λ h. h.promise.feed.value.name) (into_iter_items l.thread-iterator)
          ≡ map (λ h. h.promise.feed.value.name) l.fn.threads.items;
      room : vec_len l.finished + into_iter_len l.thread-iterator ≤ vec_capacity l.finished;
    }
