use Rattle.dsr_records.proofs.Common.{arith, subst, ◌≡◌, ◌-◌, take, drop, IsUtf8, chunk}
use Rattle.dsr_records.proofs.UsualCells.{printable_utf8}
use Rattle.dsr_records.proofs.usual.cells.Cells.text_to.Goals as goal

pub from_utf8_unchecked-requires : goal.from_utf8_unchecked-requires
from_utf8_unchecked-requires c =
    let s = c.args.self in
    let size = c.in-Some.size in
    let all : size ≡ c.args.end - s.at = omega (arith, c.if-self-size.true) in
    subst (λ n. IsUtf8 (take n (drop s.at s.page.now))) all (printable_utf8 (chunk s.at size s.page.now) c.in-Some.ensures.printable)
