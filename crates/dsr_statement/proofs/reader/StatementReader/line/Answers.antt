use Rattle.std.proofs.Common.{sym, Ok}
use Rattle.dsr_statement.proofs.ReadLines.{next_refused}
use Rattle.dsr_statement.proofs.reader.StatementReader.line.Goals as goal

pub returns-in-Ok-clause-found : goal.returns-in-Ok-clause-found
returns-in-Ok-clause-found c = λ before h. (Ok c.in-Some.line, c.in-Some.ensures.spelled before h, sym (c.in-Ok.ensures.placed before h))

pub returns-in-Err-clause-refused : goal.returns-in-Err-clause-refused
returns-in-Err-clause-refused c = λ before h.
    next_refused before c.args.bytes.now c.in-Some.line c.in-Err.error (c.in-Some.ensures.spelled before h) (c.in-Err.ensures.refused before h)
