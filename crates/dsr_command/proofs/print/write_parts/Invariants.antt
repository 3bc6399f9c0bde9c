use Rattle.dsr_command.proofs.Common.{take, IsTaken, joined}
use Rattle.dsr_command.proofs.print.write_parts.Given as goal

abbrev pub invariant-loop-part : goal.invariant-loop-part
invariant-loop-part g l = IsTaken (joined (take l.part-index l.parts)) (g.W.Outlet.told l.fn.out) (g.W.Outlet.told l.out)
