use Rattle.std.proofs.Common.{sym, subst}
use Rattle.dsr_command.specs.Faults.{IsTold}
use Rattle.dsr_totals.specs.Refusals.{no_totals_line}
use Rattle.dsr_totals.proofs.faults.no_totals.Goals as goal

pub returns-in-Refused-clause-told : goal.returns-in-Refused-clause-told
returns-in-Refused-clause-told g c =
    let wrote = c.write_refusal in
    subst (λ e. IsTold (g.F.Outlet.told c.args.fault.now) (g.F.Outlet.told wrote.new.out) (no_totals_line c.args.name.now c.args.other.now e))
    (sym c.in-Refused.is) (wrote.result, rw (c.fault_name.ensures, c.of_other.ensures) at wrote.ensures)

pub returns-in-OutOfRange-clause-told : goal.returns-in-OutOfRange-clause-told
returns-in-OutOfRange-clause-told g c =
    let wrote = c.write_line in
    subst (λ e. IsTold (g.F.Outlet.told c.args.fault.now) (g.F.Outlet.told wrote.new.out) (no_totals_line c.args.name.now c.args.other.now e))
    (sym c.in-OutOfRange.is) (wrote.result, wrote.ensures)
