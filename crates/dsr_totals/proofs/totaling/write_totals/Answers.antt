use Rattle.std.proofs.Common.{refl}
use Rattle.dsr_totals.proofs.totaling.write_totals.Goals as goal

pub returns-in-Err : goal.returns-in-Err
returns-in-Err g c = (c.add_up.new.sources, (rw (c.deref_mut.ensures.value, c.given_count.ensures) at c.in-Err.ensures, refl))
