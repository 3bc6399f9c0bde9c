use Rattle.dsr_command.proofs.Common.{◌≡◌}
use Rattle.dsr_command.specs.World.{WhereTold, end_of_links, stands_for}
use Rattle.dsr_command.proofs.link.end_of_links.Given as goal

abbrev pub invariant-links : goal.invariant-links
invariant-links g l = WhereTold (g.W.World.disk l.world) (λ d. end_of_links d.link l.left l.place ≡ stands_for d l.fn.name)

abbrev pub decreases-links : goal.decreases-links
decreases-links g l = l.left
