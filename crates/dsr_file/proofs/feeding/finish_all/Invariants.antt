use Rattle.dsr_file.proofs.Common.{◌≡◌, List, ℕ, IsPrefix, LayoutTable, Stands, first_ending, events_left}
use Rattle.dsr_file.proofs.feeding.finish_all.Given as goal

abbrev pub invariant-loop-event : goal.invariant-loop-event
invariant-loop-event g l = record {
  ending : first_ending l.file l.ending ≡ l.ending;
  name : g.S.Sink.name l.sink ≡ g.S.Sink.name l.fn.sink;
  grows : IsPrefix (g.S.Sink.list l.fn.sink) (g.S.Sink.list l.sink);
  stands : (layout : LayoutTable) (b : List ℕ) → Stands layout l.fn.file b (g.S.Sink.list l.fn.sink) → Stands layout l.file b (g.S.Sink.list l.sink);
}

abbrev pub decreases-loop-event : goal.decreases-loop-event
decreases-loop-event g l = events_left l.file
