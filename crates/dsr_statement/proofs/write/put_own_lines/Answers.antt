use Rattle.dsr_statement.proofs.Common.{[]}
use Rattle.dsr_statement.specs.meaning.Statement.{lines_of_ledger}
use Rattle.dsr_statement.specs.inner.Rows.{ledger_bytes}
use Rattle.dsr_statement.proofs.LineLemmas.{more, all, turn, text_flat}
use Rattle.dsr_statement.proofs.write.put_own_lines.Goals as goal

pub loop-line-preserved : goal.loop-line-preserved
loop-line-preserved g c =
    more [] ledger_bytes c.args.lines.now c.loop-line.line-index c.line-item.result _
    c.loop-line-test.true c.line-item.is c.loop-line.invariant c.put_own_ledger.ensures

pub returns : goal.returns
returns g c =
    turn (all [] ledger_bytes c.args.lines.now c.loop-line.line-index c.loop-line-test.false c.loop-line.invariant)
    (text_flat lines_of_ledger c.args.lines.now)
