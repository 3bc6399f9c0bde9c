use Rattle.dsr_command.proofs.Common.{length, arith, take_all, flushed_after, cut_at_flush}
use Rattle.dsr_command.proofs.print.print_text.Goals as goal

pub returns-in-Ok : goal.returns-in-Ok
returns-in-Ok g c =
    flushed_after (g.W.Outlet.told c.args.out.now) (g.W.Outlet.told c.write_all.new.out) (g.W.Outlet.told c.flush.new.self) c.args.text.now
    c.in_ok-write_all.ensures.written c.flush.ensures.bytes c.in-Ok.ensures.failed c.in-Ok.ensures.flushes

pub returns-in-Err : goal.returns-in-Err
returns-in-Err g c =
    let text = c.args.text.now in (
      omega arith,
      rw (take_all (length text) text (omega arith))
          (cut_at_flush (g.W.Outlet.told c.args.out.now) (g.W.Outlet.told c.write_all.new.out) (g.W.Outlet.told c.flush.new.self) text
          c.in_ok-write_all.ensures.written c.flush.ensures.bytes c.in-Err.ensures.failed c.in-Err.ensures.flushes.0),
    )
