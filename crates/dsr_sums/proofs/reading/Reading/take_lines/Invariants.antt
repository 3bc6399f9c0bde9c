use Rattle.std.proofs.Common.{◌≡◌, ◌-◌, ◌≤◌, List, length, take}
use Rattle.dsr_statement.specs.declared.line.Line.{Line}
use Rattle.dsr_sums.specs.inner.Readings.{Reads, TakesLines}
use Rattle.dsr_sums.proofs.reading.Reading.take_lines.Given as goal

abbrev pub invariant-lines : goal.invariant-lines
invariant-lines l = record {
  within : l.used ≤ length l.bytes;
  role : l.self.role ≡ l.fn.self.role;
  taken : (done : List Line) → Reads l.fn.self done → TakesLines l.fn.self l.self l.fn.totals l.totals done (take l.used l.bytes);
}

abbrev pub decreases-lines : goal.decreases-lines
decreases-lines l = length l.bytes - l.used
