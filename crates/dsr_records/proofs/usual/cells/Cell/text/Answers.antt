use Rattle.dsr_records.proofs.Common.{arith, subst, ◌≡◌, ◌+◌, ◌-◌, take, drop, IsUtf8, chunk}
use Rattle.dsr_records.proofs.UsualCells.{printable_utf8}
use Rattle.dsr_records.proofs.usual.cells.Cell.text.Goals as goal

pub from_utf8_unchecked-requires : goal.from_utf8_unchecked-requires
from_utf8_unchecked-requires c =
    let at = c.args.self.at in
    let size = c.args.self.size in
    let same : size ≡ at + size - at = omega arith in
    subst (λ n. IsUtf8 (take n (drop at c.args.self.page.now))) same
    (printable_utf8 (chunk at size c.args.self.page.now) c.args.self.printable)
