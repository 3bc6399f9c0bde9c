use Rattle.std.specs.Io.KnownBytes.{Consumes}
use Rattle.dsr_totals.proofs.lists.read_bytes.Given as goal

abbrev pub invariant-reads : goal.invariant-reads
invariant-reads g l = Consumes (g.R.Source.told l.fn.source).remaining (g.R.Source.told l.source).remaining l.bytes.items
