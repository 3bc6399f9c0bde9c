use Rattle.dsr_statement.proofs.Common.{take, flat_map, Puts}
use Rattle.dsr_statement.specs.meaning.Lines.{line_bytes}
use Rattle.dsr_statement.proofs.write.put_each.Given as goal

abbrev pub invariant-loop-item : goal.invariant-loop-item
invariant-loop-item g l = Puts g.W.Outlet.told l.fn.out l.out (flat_map (λ x. line_bytes (g.T.AsLine.line x)) (take l.item-index l.items))
