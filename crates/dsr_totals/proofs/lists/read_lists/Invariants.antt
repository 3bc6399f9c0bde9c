use Rattle.std.proofs.Common.{◌≡◌, map, take}
use Rattle.dsr_command.specs.World.{WhereTold}
use Rattle.dsr_totals.specs.Steps.{AreListed}
use Rattle.dsr_totals.proofs.lists.read_lists.Given as goal

abbrev pub invariant-loop-list : goal.invariant-loop-list
invariant-loop-list g l = record {
  listed : WhereTold (g.W.World.disk l.world) (λ d. AreListed d (take l.list-index l.lists) l.fn.names l.names);
  files : WhereTold (g.W.World.disk l.world) (λ d. l.files.items ≡ map d.file (take l.list-index l.lists));
}
