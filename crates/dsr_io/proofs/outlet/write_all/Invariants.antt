use Rattle.std.proofs.Common.{◌≤◌, ◌-◌, length, take}
use Rattle.dsr_io.specs.layer.Written.{IsTaken}
use Rattle.dsr_io.proofs.outlet.write_all.Given as goal

abbrev pub invariant-loop-written : goal.invariant-loop-written
invariant-loop-written g l =
    record {
      within : l.written ≤ length l.bytes;
      taken : IsTaken (take l.written l.bytes) (g.W.Outlet.told l.fn.out) (g.W.Outlet.told l.out);
    }

abbrev pub decreases-loop-written : goal.decreases-loop-written
decreases-loop-written g l = length l.bytes - l.written
