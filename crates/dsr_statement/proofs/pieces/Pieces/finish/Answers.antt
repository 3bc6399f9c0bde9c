use Rattle.dsr_statement.proofs.Common.{◌≡◌, length, arith, take_all}
use Rattle.dsr_io.proofs.Taken.{flushed_after, cut_at_flush}
use Rattle.dsr_statement.proofs.Sending.{all_sent_too}
use Rattle.dsr_statement.proofs.pieces.Pieces.finish.Goals as goal

pub returns-then-self-clause-part : goal.returns-then-self-clause-part
returns-then-self-clause-part g c put before h =
    let p = c.send_waiting.new.self in
    let all = rw c.if-self.true at (all_sent_too g.W.Outlet.told c.args.self.now p put before c.send_waiting.ensures.empty c.send_waiting.ensures.nothing h) in
    (all.part, all.cut)

pub returns-in-Ok-clause-whole : goal.returns-in-Ok-clause-whole
returns-in-Ok-clause-whole g c put before h =
    let p = c.send_waiting.new.self in
    let told = g.W.Outlet.told in
    let all = rw c.if-self.false at (all_sent_too told c.args.self.now p put before c.send_waiting.ensures.empty c.send_waiting.ensures.nothing h) in
    flushed_after before (told p.sender.out.now) (told c.flush.new.self) put all.taken c.flush.ensures.bytes c.in-Ok.ensures.failed c.in-Ok.ensures.flushes

pub returns-in-Err-clause-part : goal.returns-in-Err-clause-part
returns-in-Err-clause-part g c put before h =
    let p = c.send_waiting.new.self in
    let told = g.W.Outlet.told in
    let all = rw c.if-self.false at (all_sent_too told c.args.self.now p put before c.send_waiting.ensures.empty c.send_waiting.ensures.nothing h) in
    let same : p.sender.written ≡ length put = all.count in (
      omega (arith, same),
      rw (same, take_all (length put) put (omega arith)) (
          cut_at_flush before (told p.sender.out.now) (told c.flush.new.self) put all.taken c.flush.ensures.bytes c.in-Err.ensures.failed
          c.in-Err.ensures.flushes.0),
    )
