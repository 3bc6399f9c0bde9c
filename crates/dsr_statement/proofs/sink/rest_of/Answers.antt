use Rattle.dsr_statement.proofs.Fronts.{after_given, after_none}
use Rattle.dsr_statement.proofs.sink.rest_of.Goals as goal

pub returns-in-Some : goal.returns-in-Some
returns-in-Some c = after_given c.args.rest c.in-Some.text c.args.bytes.now c.rest_after.result c.in-Some.is c.rest_after.ensures

pub returns-in-None : goal.returns-in-None
returns-in-None c = after_none c.args.rest c.args.bytes.now c.in-None.is
