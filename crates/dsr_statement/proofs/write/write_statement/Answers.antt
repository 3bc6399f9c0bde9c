use Rattle.dsr_statement.proofs.Common.{[], rules}
use Rattle.dsr_statement.specs.meaning.Statement.{statement_of}
use Rattle.dsr_statement.proofs.Sending.{if_ok, if_err}
use Rattle.dsr_statement.proofs.write.write_statement.Goals as goal

pub returns-clause-whole : goal.returns-clause-whole
returns-clause-whole g c = λ r is.
    let before = g.W.Outlet.told c.args.out.now in
    let all = (c.put_statement.ensures r is).holds [] before c.new-pieces.ensures.nothing in
    let here = if_ok c.finish-answer.result (λ whole. whole (statement_of r) before all) c.finish-answer.ensures.whole in
    search rules

pub returns-clause-part : goal.returns-clause-part
returns-clause-part g c = λ r is.
    let before = g.W.Outlet.told c.args.out.now in
    let all = (c.put_statement.ensures r is).holds [] before c.new-pieces.ensures.nothing in
    let here = if_err c.finish-answer.result (λ n part. part (statement_of r) before all) c.finish-answer.ensures.part in
    search rules
