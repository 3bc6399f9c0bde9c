use Rattle.dsr_records.proofs.Common.{arith, ◌≡◌, true, list_all, chunk, is_printable}
use Rattle.dsr_records.proofs.UsualCells.{printable_utf8, shown_all}
use Rattle.dsr_records.proofs.UsualLines.{next_front}
use Rattle.dsr_records.proofs.usual.cells.Cells.next.Goals as goal

pub returns : goal.returns
returns c page front is =
    let s = c.args.self in
    let cell = c.in_ok-cell.cell in
    let e = c.in_ok-cell.ensures in
    let text = chunk s.at cell.size s.page.now in
    let printable : list_all is_printable text ≡ true = rw (e.page, e.at) at cell.printable in
    rw (c.behind.ensures.page, c.behind.ensures.at, e.page, e.at)
    (next_front s.page.now s.at cell.size (omega (arith, e.within, s.behind)) (shown_all text printable) (printable_utf8 text printable) page front is
    (rw (e.page, e.at) at e.mark))
