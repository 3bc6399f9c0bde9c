use Rattle.std.proofs.Common.{◌++◌, ap}
use Rattle.dsr_command.proofs.Programs.{stored, unstored}
use Rattle.dsr_command.proofs.Worlds.{at_disk, where_told}
use Rattle.dsr_command.specs.World.{ghosts, made}
use Rattle.dsr_totals.specs.Refusals.{dsr_totals}
use Rattle.dsr_totals.specs.Serving.{files_asked, files_read, texts_asked}
use Rattle.dsr_totals.specs.Totaling.{IsAnswerTold, WroteTotals}
use Rattle.dsr_totals.proofs.program.print_opened.Goals as goal

pub returns-in-Ok : goal.returns-in-Ok
returns-in-Ok g c =
    let had = ghosts g.W.Reader.Source.told g.W.New.Outlet.told in
    let between = g.W.World.disk c.create_beside-created.new.world in
    let left = g.W.World.disk c.replace_by_totals.new.world in
    let asked = c.args.asked.now in
    where_told (g.W.World.disk c.args.world.now) _ (λ d is are lists_are.
    let created = rw (c.deref.ensures.value, c.deref-2.ensures.value) at (at_disk _ _ d is c.in-Ok.ensures.created) in
    stored had dsr_totals (WroteTotals had.told asked) (IsAnswerTold asked) g.W.Reader.FileSource.file d
    c.args.opened.lists.items (files_asked d asked) (files_read d asked) (texts_asked d asked) c.args.opened.inputs.items
    are (ap (λ lists. lists ++ files_asked d asked) lists_are) between left asked.output c.in-Some.name (c.in-Ok.new, c.in-Ok.place)
    (g.O.Outlet.told c.args.out.now) (g.F.Outlet.told c.args.fault.now) (g.F.Outlet.told c.replace_by_totals.new.fault) c.replace_by_totals.result
    c.in-Some.is created (at_disk between _ (made d) created.1.1 c.replace_by_totals.ensures created.1.0))

pub returns-in-Err : goal.returns-in-Err
returns-in-Err g c =
    let had = ghosts g.W.Reader.Source.told g.W.New.Outlet.told in
    let left = g.W.World.disk c.create_beside-created.new.world in
    let asked = c.args.asked.now in
    where_told (g.W.World.disk c.args.world.now) _ (λ d is are lists_are.
    unstored had dsr_totals (WroteTotals had.told asked) (IsAnswerTold asked) g.W.Reader.FileSource.file d
    c.args.opened.lists.items (files_asked d asked) (files_read d asked) (texts_asked d asked) c.args.opened.inputs.items
    are (ap (λ lists. lists ++ files_asked d asked) lists_are) left asked.output c.in-Some.name c.in-Err.error
    (g.O.Outlet.told c.args.out.now) (g.F.Outlet.told c.args.fault.now) (g.F.Outlet.told c.no_new_file.new.fault) c.no_new_file.result
    c.in-Some.is (rw (c.deref.ensures.value, c.deref-2.ensures.value) at (at_disk _ _ d is c.in-Err.ensures.created))
    c.no_new_file.ensures.told c.no_new_file.ensures.status)
