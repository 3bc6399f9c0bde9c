use Rattle.dsr_intake.proofs.Common.{◌+◌, ◌≤◌, map, vec_len, vec_capacity, into_iter_items, into_iter_len}
use Rattle.dsr_intake.proofs.Joining.{Joining, Keeping}
use Rattle.dsr_intake.proofs.gather.settle_all.Given as goal

abbrev pub invariant-loop-thread : goal.invariant-loop-thread
invariant-loop-thread g l =
    record {
      joined : Joining g.R.Source.told l.fn.options (λ h. h.promise.reader.value) (λ h. h.promise.feed.value.name) (λ h. h.promise.options.value)
          (map (λ h. h.promise.reader.value) l.fn.threads.items) (map (λ t. t.taken) l.fn.taps.items) (into_iter_items l.thread-iterator)
          (into_iter_items l.taps) l.readers.items;
      keeping : Keeping g.R.Source.told g.R.Source.holds (λ h. h.promise.reader.value) (map (λ h. h.promise.reader.value) l.fn.threads.items)
          (into_iter_items l.thread-iterator) l.readers.items;
      room : vec_len l.readers + into_iter_len l.thread-iterator ≤ vec_capacity l.readers;
    }
