use Rattle.dsr_statement.proofs.Common.{take, flat_map, Puts}
use Rattle.dsr_statement.specs.inner.Rows.{ledger_bytes}
use Rattle.dsr_statement.proofs.write.put_own_lines.Given as goal

abbrev pub invariant-loop-line : goal.invariant-loop-line
invariant-loop-line g l = Puts g.W.Outlet.told l.fn.out l.out (flat_map ledger_bytes (take l.line-index l.lines))
