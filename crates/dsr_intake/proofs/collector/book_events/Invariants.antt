use Rattle.dsr_intake.proofs.Common.{◌≡◌, List, take, Placed, files_count, IsFollowed, TakesAll}
use Rattle.dsr_intake.proofs.collector.book_events.Given as goal

abbrev pub invariant-loop-event : goal.invariant-loop-event
invariant-loop-event l = record {
  files : files_count l.books ≡ files_count l.fn.books;
  takes : (taken : List Placed) → IsFollowed taken l.events → TakesAll l.fn.books l.books l.k taken (take l.event-index l.events);
}
