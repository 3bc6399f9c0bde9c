use Rattle.dsr_sums.specs.inner.Readings.{IsReading}
use Rattle.dsr_sums.proofs.reading.read_statement.Given as goal

abbrev pub invariant-reads : goal.invariant-reads
invariant-reads g l = IsReading (g.R.Source.told l.fn.source) (g.R.Source.told l.source) l.fn.role l.fn.totals l.totals l.reading l.kept
