use Rattle.dsr_command.proofs.Common.{◌≡◌, ◌∙◌, ◌+◌, ◌++◌, ap, sym, subst, length, take, drop, arith, take_all, IsTaken, IsFlushed, IsCut, joined, taken_none, taken_more, cut_after, flushed_after, cut_at_flush}
use Rattle.dsr_command.proofs.Printing.{joined_at, joined_next, written_in_part}
use Rattle.dsr_command.proofs.print.write_parts.Goals as goal

pub loop-part-init : goal.loop-part-init
loop-part-init g c = taken_none (g.W.Outlet.told c.args.out.now)

pub loop-part-preserved : goal.loop-part-preserved
loop-part-preserved g c =
    let parts = c.args.parts.now in
    let i = c.loop-part.part-index in
    let a = g.W.Outlet.told c.args.out.now in
    let b = g.W.Outlet.told c.loop-part.out in
    let d = g.W.Outlet.told c.write_all.new.out in
    let next : joined (take (i + 1) parts) ≡ joined (take i parts) ++ c.as_bytes.result.now =
    joined_next parts i _ c.loop-part-test.true ∙ ap (λ l. joined (take i parts) ++ l) (sym c.as_bytes.ensures.value) in
    subst (λ l. IsTaken l a d) (sym next) (taken_more a b d (joined (take i parts)) c.as_bytes.result.now c.loop-part.invariant c.in-Ok.ensures.written)

pub returns-in-Err : goal.returns-in-Err
returns-in-Err g c =
    let parts = c.args.parts.now in
    let i = c.loop-part.part-index in
    let a = g.W.Outlet.told c.args.out.now in
    let b = g.W.Outlet.told c.loop-part.out in
    let d = g.W.Outlet.told c.write_all.new.out in
    let n = c.in-Err._count in
    let front = joined (take i parts) in
    let part = c.as_bytes.result.now in
    let rest = joined (drop (i + 1) parts) in
    let line : joined parts ≡ front ++ (part ++ rest) =
    joined_at parts i _ c.loop-part-test.true ∙ ap (λ l. front ++ (l ++ rest)) (sym c.as_bytes.ensures.value) in
    written_in_part a d (joined parts) front part rest n line c.in-Err.ensures.written.0
    (cut_after a b d front (take n part) c.loop-part.invariant c.in-Err.ensures.written.1)

pub returns-in-Ok-flush : goal.returns-in-Ok-flush
returns-in-Ok-flush g c =
    let parts = c.args.parts.now in
    let i = c.loop-part.part-index in
    let a = g.W.Outlet.told c.args.out.now in
    let b = g.W.Outlet.told c.loop-part.out in
    let d = g.W.Outlet.told c.flush.new.self in
    let all = ap joined (take_all i parts c.loop-part-test.false) in
    subst (λ l. IsFlushed l a d) all
    (flushed_after a b d (joined (take i parts)) c.loop-part.invariant c.flush.ensures.bytes c.in-Ok-flush.ensures.failed c.in-Ok-flush.ensures.flushes)

pub returns-in-Err-flush : goal.returns-in-Err-flush
returns-in-Err-flush g c =
    let parts = c.args.parts.now in
    let i = c.loop-part.part-index in
    let a = g.W.Outlet.told c.args.out.now in
    let b = g.W.Outlet.told c.loop-part.out in
    let d = g.W.Outlet.told c.flush.new.self in
    let line = joined parts in
    let all : joined (take i parts) ≡ line = ap joined (take_all i parts c.loop-part-test.false) in (
      length line,
      omega arith,
      rw (take_all (length line) line (omega arith)) (subst (λ l. IsCut l a d) all
          (cut_at_flush a b d (joined (take i parts)) c.loop-part.invariant c.flush.ensures.bytes c.in-Err-flush.ensures.failed
          c.in-Err-flush.ensures.flushes.0)),
    )
