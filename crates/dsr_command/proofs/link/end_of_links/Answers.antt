use Rattle.dsr_command.proofs.Common.{ap}
use Rattle.dsr_command.specs.declared.link.Link.TheVariants.{Plain, Barred}
use Rattle.dsr_command.specs.World.{stands_for}
use Rattle.dsr_command.proofs.Links.{followed, looked_at}
use Rattle.dsr_command.proofs.Worlds.{at_disk, where_told}
use Rattle.dsr_command.proofs.link.end_of_links.Goals as goal

pub links-init : goal.links-init
links-init g c = where_told (g.W.World.disk c.args.world.now) _ (λ d is. ap (stands_for d) c.in_ok-place.ensures)

pub returns-in-Plain : goal.returns-in-Plain
returns-in-Plain g c =
    where_told (g.W.World.disk c.args.world.now) _ (λ d is.
    looked_at d c.links.left c.links.place c.args.name.now Plain c.links-test.true (at_disk _ _ d is c.links.invariant)
    (rw (c.in-Plain.is, c.as_str.ensures) at (at_disk _ _ d is c.in_ok-link.ensures)))

pub links-preserved : goal.links-preserved
links-preserved g c =
    where_told (g.W.World.disk c.args.world.now) _ (λ d is.
    followed d c.links.left c.links.place c.in_ok-place-in-To.place c.args.name.now c.in-To.text c.links-test.true
    (at_disk _ _ d is c.links.invariant) (rw (c.in-To.is, c.as_str.ensures) at (at_disk _ _ d is c.in_ok-link.ensures))
    (rw (c.as_str-in-To.ensures, c.as_str-in-To-2.ensures) at c.in_ok-place-in-To.ensures))

pub returns-in-Barred : goal.returns-in-Barred
returns-in-Barred g c =
    where_told (g.W.World.disk c.args.world.now) _ (λ d is.
    looked_at d c.links.left c.links.place c.args.name.now Barred c.links-test.true (at_disk _ _ d is c.links.invariant)
    (rw (c.in-Barred.is, c.as_str.ensures) at (at_disk _ _ d is c.in_ok-link.ensures)))
