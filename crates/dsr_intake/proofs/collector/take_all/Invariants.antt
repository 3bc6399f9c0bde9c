use Rattle.dsr_intake.proofs.Common.{◌≡◌, map, All, Stands, files_count, file_of, IsTapped}
use Rattle.dsr_intake.proofs.collector.take_all.Given as goal

abbrev pub invariant-loop : goal.invariant-loop
invariant-loop g l =
    record {
      files : files_count l.books ≡ files_count l.fn.books;
      names : map (λ t. t.name) l.taps.items ≡ map (λ t. t.name) l.fn.taps.items;
      tapped : All IsTapped l.taps.items;
      stands : Stands l.books (map (λ t. file_of t.taken) l.taps.items);
    }
