use Rattle.dsr_file.proofs.Common.{◌≡◌, ◌≤◌, ◌*◌, [], None, LayoutTable, Stands, bytes_used, ending_told, Reads}
use Rattle.dsr_file.proofs.HoldLemmas.{Holding}
use Rattle.dsr_file.proofs.reading.read_all.Given as goal

abbrev pub invariant-loop : goal.invariant-loop
invariant-loop g l = record {
  ending : ending_told l.file ≡ None;
  none : l.part ≡ None;
  count : bytes_used l.file ≤ 4096 * l.counter;
  name : g.S.Sink.name l.sink ≡ g.S.Sink.name l.fn.sink;
  read : (layout : LayoutTable) → Stands layout l.fn.file [] (g.S.Sink.list l.fn.sink)
      → Reads layout (g.R.Source.told l.fn.reader) (g.R.Source.told l.reader) l.counter l.file (g.S.Sink.list l.sink);
  held : Holding g.R.Source.told g.R.Source.holds l.fn.reader l.reader;
}
