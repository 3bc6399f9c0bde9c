use Rattle.dsr_ledger.proofs.Common.{◌≡◌, map, take}
use Rattle.dsr_ledger.proofs.index.boxed.Given as goal

abbrev pub invariant-loop-item : goal.invariant-loop-item
invariant-loop-item g l = l.numbers.keys ≡ take l.item-index (map g.T.Numbered.number_of l.items)
