use Rattle.std.proofs.Common.{sym, subst}
use Rattle.dsr_command.specs.Faults.{IsTold}
use Rattle.dsr_totals.specs.Refusals.{unread_line}
use Rattle.dsr_totals.proofs.faults.not_read.Goals as goal

pub returns-in-Read-clause-told : goal.returns-in-Read-clause-told
returns-in-Read-clause-told g c =
    let wrote = c.cannot_read in
    subst (λ e. IsTold (g.F.Outlet.told c.args.fault.now) (g.F.Outlet.told wrote.new.fault) (unread_line e))
    (sym c.in-Read.is) (rw c.as_str.ensures at wrote.ensures.told)
