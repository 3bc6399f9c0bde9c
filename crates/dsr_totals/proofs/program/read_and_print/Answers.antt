use Rattle.dsr_command.proofs.Worlds.{at_disk, where_told}
use Rattle.dsr_command.specs.Outputs.{outputs}
use Rattle.dsr_totals.proofs.Serving.{served, unserved}
use Rattle.dsr_command.specs.World.{ghosts}
use Rattle.dsr_totals.proofs.program.read_and_print.Goals as goal

pub returns-in-Ok : goal.returns-in-Ok
returns-in-Ok g c =
    where_told (g.W.World.disk c.args.world.now) _ (λ d is.
    let are = at_disk _ _ d is c.in-Ok.ensures.opened in
    served (ghosts g.W.Reader.Source.told g.W.New.Outlet.told) g.W.Reader.FileSource.file d (g.W.World.disk c.print_opened.new.world) c.args.asked
    c.open_statements.new.asked c.in-Ok.opened (outputs (g.O.Outlet.told c.args.out.now) (g.F.Outlet.told c.args.fault.now))
    (outputs (g.O.Outlet.told c.print_opened.new.out) (g.F.Outlet.told c.print_opened.new.fault)) c.print_opened.result are
    (at_disk _ _ d is c.print_opened.ensures are.sources_are are.files_are))

pub returns : goal.returns
returns g c =
    where_told (g.W.World.disk c.args.world.now) _ (λ d is.
    unserved (ghosts g.W.Reader.Source.told g.W.New.Outlet.told) g.W.Reader.FileSource.file d (g.W.World.disk c.args.world.now) c.args.asked
    c.in-Err.error (g.O.Outlet.told c.args.out.now) (g.F.Outlet.told c.args.fault.now) (g.F.Outlet.told c.not_read.new.fault) c.not_read.result
    (at_disk _ _ d is c.in-Err.ensures.opened) c.not_read.ensures.told c.not_read.ensures.status is)
