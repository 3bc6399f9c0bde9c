use Rattle.dsr_laws.proofs.Given.{texts_readable}
use Rattle.dsr_laws.proofs.laws.reports_are_readable.Goals as goal

pub returns : goal.returns
returns c = texts_readable
