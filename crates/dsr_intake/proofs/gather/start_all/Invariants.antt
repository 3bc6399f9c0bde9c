use Rattle.dsr_intake.proofs.Common.{◌+◌, ◌≤◌, vec_len, vec_capacity, into_iter_items, into_iter_len}
use Rattle.dsr_intake.proofs.Joining.{Starting}
use Rattle.dsr_intake.proofs.gather.start_all.Given as goal

abbrev pub invariant-loop-reader : goal.invariant-loop-reader
invariant-loop-reader g l =
    record {
      started : Starting g.R.Source.told l.options (λ h. h.promise.reader.value) (λ h. h.promise.feed.value.name) (λ h. h.promise.options.value)
          l.fn.readers.items l.threads.items l.taps.items (into_iter_items l.reader-iterator);
      room : vec_len l.threads + into_iter_len l.reader-iterator ≤ vec_capacity l.threads;
      few : vec_len l.threads + into_iter_len l.reader-iterator ≤ vec_len l.fn.readers;
    }
