use Rattle.dsr_records.proofs.Common.{arith, refl, ◌≡◌, ◌+◌, true, list_all, chunk, is_printable}
use Rattle.dsr_records.proofs.UsualCells.{shown_all, shown_past, shown_to}
use Rattle.dsr_records.proofs.usual.cells.Cells.text_end.Goals as goal

pub returns-then-self-end-lt128-clause-shown : goal.returns-then-self-end-lt128-clause-shown
returns-then-self-end-lt128-clause-shown c =
    let s = c.args.self in
    let left = c.loop-end.left in
    let size = c.in_ok-end.field-0 in
    let i = c.loop-end.invariant in
    let run : list_all is_printable (chunk left.at size s.page.now) ≡ true = rw i.0 at c.in_ok-end.ensures.printable in
    shown_to s.page.now s.at left.at size i.2 i.3 (shown_all (chunk left.at size s.page.now) run)

pub loop-end-preserved : goal.loop-end-preserved
loop-end-preserved c =
    let s = c.args.self in
    let left = c.loop-end.left in
    let size = c.in_ok-end.field-0 in
    let i = c.loop-end.invariant in
    let e = c.behind-left.ensures in
    let run : list_all is_printable (chunk left.at size s.page.now) ≡ true = rw i.0 at c.in_ok-end.ensures.printable in
    let before = shown_to s.page.now s.at left.at size i.2 i.3 (shown_all (chunk left.at size s.page.now) run) in
    rw (e.page, e.end, e.at, i.0, i.1) (
      refl,
      refl,
      omega (arith, i.2),
      shown_past s.page.now s.at (left.at + size) (omega (arith, i.2)) (omega (arith, c.in_ok-end.ensures.within, i.1, s.behind)) before
          (omega (arith, c.if-self-end-lt128.false)),
    )
