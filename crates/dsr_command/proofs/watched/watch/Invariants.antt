use Rattle.dsr_command.proofs.Common.{◌≡◌, ◌++◌, map, into_iter_items}
use Rattle.dsr_command.proofs.watched.watch.Given as goal

abbrev pub invariant-loop-source : goal.invariant-loop-source
invariant-loop-source g l = map (λ w. w.source) l.watched.items ++ into_iter_items l.source-iterator ≡ l.fn.sources.items
