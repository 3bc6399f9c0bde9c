use Rattle.std.proofs.Common.{inl, inr}
use Rattle.dsr_command.proofs.Worlds.{at_disk, where_told}
use Rattle.dsr_command.proofs.Programs.{only_told}
use Rattle.dsr.proofs.program.read_and_print.Goals as goal

pub returns-in-Ok : goal.returns-in-Ok
returns-in-Ok g c =
    where_told (g.W.World.disk c.args.world.now) _ (λ d is.
    let had = at_disk _ _ d is c.in-Ok.ensures in inl (c.in-Ok.options.options.value, had.options, at_disk _ _ d is c.read_files.ensures had))

pub returns-in-Err : goal.returns-in-Err
returns-in-Err g c =
    let told = only_told (g.O.Outlet.told c.args.out) (g.F.Outlet.told c.args.fault.now) (g.F.Outlet.told c.layout_refused.new.fault) _
    (rw c.layout_name.ensures at c.layout_refused.ensures.told) in
    where_told (g.W.World.disk c.args.world.now) _ (λ d is.
    inr (c.in-Err.error, at_disk _ _ d is c.in-Err.ensures, told, c.layout_refused.ensures.status, is))
