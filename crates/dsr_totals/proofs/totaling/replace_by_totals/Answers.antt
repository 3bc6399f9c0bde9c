use Rattle.dsr_command.proofs.Programs.{settled, unsettled}
use Rattle.dsr_command.proofs.Worlds.{at_disk, where_told}
use Rattle.dsr_totals.specs.Refusals.{dsr_totals}
use Rattle.dsr_totals.specs.Totaling.{IsAnswerTold}
use Rattle.dsr_totals.proofs.totaling.replace_by_totals.Goals as goal

pub returns-in-Ok : goal.returns-in-Ok
returns-in-Ok g c =
    let wrote = c.write_totals-answer in
    let whole = g.W.New.Outlet.told wrote.new.out in
    let left = g.W.World.disk c.settle.new.world in
    where_told (g.W.World.disk c.args.world.now) _ (λ d is leads. (
      wrote.result,
      wrote.ensures.0,
      wrote.new.out,
      wrote.ensures.1,
      settled dsr_totals (IsAnswerTold c.args.asked.now) whole.contents c.args.name.now d left (g.F.Outlet.told c.args.fault.now)
          (g.F.Outlet.told c.status_of.new.fault) c.status_of.result wrote.result tt
          (at_disk _ _ d is (rw c.in-Ok.is at c.settle.ensures) c.args.name.now leads) c.status_of.ensures,
    ))

pub returns-in-Err : goal.returns-in-Err
returns-in-Err g c =
    let wrote = c.write_totals-answer in
    let whole = g.W.New.Outlet.told wrote.new.out in
    let left = g.W.World.disk c.settle.new.world in
    let told = c.cannot_replace in
    where_told (g.W.World.disk c.args.world.now) _ (λ d is leads. (
      wrote.result,
      wrote.ensures.0,
      wrote.new.out,
      wrote.ensures.1,
      unsettled dsr_totals (IsAnswerTold c.args.asked.now) whole.contents c.args.name.now d left (g.F.Outlet.told c.args.fault.now)
          (g.F.Outlet.told told.new.fault) told.result wrote.result _
          (at_disk _ _ d is (rw c.in-Err.is at c.settle.ensures) c.args.name.now leads) told.ensures.told told.ensures.status,
    ))
