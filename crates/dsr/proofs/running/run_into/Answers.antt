use Rattle.dsr_command.proofs.Programs.{settled, unsettled}
use Rattle.dsr_command.proofs.Worlds.{at_disk, where_told}
use Rattle.dsr_command.specs.Faults.{dsr}
use Rattle.dsr.specs.Serving.{IsAnswerTold}
use Rattle.dsr.proofs.running.run_into.Goals as goal

pub returns-in-Ok : goal.returns-in-Ok
returns-in-Ok g c =
    let run = c.run_inputs-new in
    let whole = g.W.New.Outlet.told run.result.0 in
    let left = g.W.World.disk c.settle.new.world in
    where_told (g.W.World.disk c.args.world.now) _ (λ d is leads. (
      run.result.1,
      run.ensures.0,
      run.result.0,
      run.ensures.1,
      settled dsr IsAnswerTold whole.contents c.args.name.now d left (g.F.Outlet.told c.args.fault.now) (g.F.Outlet.told c.status_of.new.fault)
          c.status_of.result run.result.1 tt (at_disk _ _ d is (rw c.in-Ok.is at c.settle.ensures) c.args.name.now leads) c.status_of.ensures,
    ))

pub returns-in-Err : goal.returns-in-Err
returns-in-Err g c =
    let run = c.run_inputs-new in
    let whole = g.W.New.Outlet.told run.result.0 in
    let left = g.W.World.disk c.settle.new.world in
    let told = c.cannot_replace in
    where_told (g.W.World.disk c.args.world.now) _ (λ d is leads. (
      run.result.1,
      run.ensures.0,
      run.result.0,
      run.ensures.1,
      unsettled dsr IsAnswerTold whole.contents c.args.name.now d left (g.F.Outlet.told c.args.fault.now) (g.F.Outlet.told told.new.fault)
          told.result run.result.1 _ (at_disk _ _ d is (rw c.in-Err.is at c.settle.ensures) c.args.name.now leads) told.ensures.told told.ensures.status,
    ))
