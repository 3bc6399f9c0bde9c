use Rattle.dsr_file.proofs.Common.{◌≡◌, ◌≤◌, ◌+◌, ◌-◌, ◌++◌, List, ℕ, length, take, None, IsPrefix, LayoutTable, Stands, bytes_used, ending_told, events_left}
use Rattle.dsr_file.proofs.feeding.feed.Given as goal

abbrev pub invariant-loop-sink : goal.invariant-loop-sink
invariant-loop-sink g l = record {
  bound : l.used ≤ length l.piece;
  count : bytes_used l.file ≡ bytes_used l.fn.file + l.used;
  ending : ending_told l.file ≡ None;
  none : l.part ≡ None;
  name : g.S.Sink.name l.sink ≡ g.S.Sink.name l.fn.sink;
  grows : IsPrefix (g.S.Sink.list l.fn.sink) (g.S.Sink.list l.sink);
  stands : (layout : LayoutTable) (b : List ℕ) → Stands layout l.fn.file b (g.S.Sink.list l.fn.sink)
      → Stands layout l.file (b ++ take l.used l.piece) (g.S.Sink.list l.sink);
}

abbrev pub decreases-loop-sink : goal.decreases-loop-sink
decreases-loop-sink g l = (length l.piece - l.used) + events_left l.file
