use Rattle.std.proofs.Common.{arith, ◌≤◌, length}
use Rattle.std.proofs.lemmas.Bool.{le-ltb}
use Rattle.dsr_statement.proofs.NearLines.{line_near}
use Rattle.dsr_statement.proofs.reader.StatementReader.near_line.Goals as goal

pub returns-clause-spelled : goal.returns-clause-spelled
returns-clause-spelled c = λ before h.
    let few : length c.args.bytes.now ≤ 16384 = omega arith in
    let good = c.is_within.ensures before h c.if-not-is_within.false in
    line_near c.args.bytes.now c.in_ok-text_of.field-0.now c.near_line.result (le-ltb _ _ few) c.in_ok-text_of.ensures (c.near_line.ensures.spelled good)
