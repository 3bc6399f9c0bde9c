use Rattle.dsr_statement.proofs.Common.{arith, common_steps}
use Rattle.dsr_statement.proofs.pieces.Sender.send.Goals as goal
use Rattle.dsr_statement.proofs.Sending.{sent_after, broken_after, broken_more}

pub returns-then-self-clause-same_outlet : goal.returns-then-self-clause-same_outlet
returns-then-self-clause-same_outlet g c = grind (arith, common_steps)

pub returns-then-self-clause-sent : goal.returns-then-self-clause-sent
returns-then-self-clause-sent g c sent before h = rw c.if-self.true (broken_more sent c.args.bytes.now _ before _ (rw c.if-self.true at h))

pub returns-in-Ok-clause-sent : goal.returns-in-Ok-clause-sent
returns-in-Ok-clause-sent g c sent before h =
    rw c.if-self.false (sent_after sent c.args.bytes.now _ _ before _ _ (rw c.if-self.false at h) c.in-Ok.ensures.written c.saturating_add-self.ensures)

pub returns-in-Err-clause-sent : goal.returns-in-Err-clause-sent
returns-in-Err-clause-sent g c sent before h =
    broken_after sent c.args.bytes.now _ _ _ before _ _ (rw c.if-self.false at h) c.in-Err.ensures.written c.saturating_add-self-in-Err.ensures
