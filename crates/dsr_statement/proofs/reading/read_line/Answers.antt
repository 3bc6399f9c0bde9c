use Rattle.std.proofs.Common.{rules}
use Rattle.dsr_statement.proofs.ReadLines.{line_of_read, not_utf8}
use Rattle.dsr_statement.proofs.reading.read_line.Goals as goal

pub returns-in-Some : goal.returns-in-Some
returns-in-Some c =
    line_of_read c.args.bytes.now c.in-Some.text.now c.read.result (search rules) c.in-Some.ensures c.read.ensures.found c.read.ensures.only c.read.ensures.fault

pub returns-in-None : goal.returns-in-None
returns-in-None c = not_utf8 c.args.bytes.now (search rules) c.in-None.ensures
