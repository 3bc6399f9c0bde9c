use Rattle.dsr_intake.proofs.Common.{◌≡◌, length, map, All, Stands, files_count, file_of, IsTapped, HasMore, taken_count}
use Rattle.dsr_intake.proofs.collector.go_round.Given as goal

abbrev pub invariant-loop-k : goal.invariant-loop-k
invariant-loop-k g l =
    record {
      files : files_count l.books ≡ files_count l.fn.books;
      len : length l.taps.items ≡ length l.fn.taps.items;
      names : map (λ t. t.name) l.taps.items ≡ map (λ t. t.name) l.fn.taps.items;
      tapped : All IsTapped l.taps.items;
      stands : Stands l.books (map (λ t. file_of t.taken) l.taps.items);
      any : HasMore l.any (taken_count l.fn.taps.items) (taken_count l.taps.items);
    }
