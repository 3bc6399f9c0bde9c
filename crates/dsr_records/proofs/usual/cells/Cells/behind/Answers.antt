use Rattle.dsr_records.proofs.Common.{arith, ap, ◌∙◌, ◌≡◌, ◌+◌, ◌-◌, chunk, odd_bits}
use Rattle.dsr_records.proofs.UsualCells.{left_behind}
use Rattle.dsr_records.proofs.usual.cells.Cells.behind.Goals as goal

pub invariant_of-result : goal.invariant_of-result
invariant_of-result c =
    let s = c.args.self in
    let next : s.at + (c.args.end - s.at) + 1 ≡ c.args.end + 1 = omega (arith, c.requires.from) in
    record {
      order = omega (arith, c.requires.within);
      few = omega (arith, s.few, c.requires.from);
      near = s.near;
      behind = s.behind;
      known =
          left_behind s.page.now s.at s.end s.odd s.few (omega (arith, s.behind)) s.known (c.args.end - s.at)
          (omega (arith, c.requires.from, c.requires.within)) ∙ ap (λ k. odd_bits (chunk k (s.end - k) s.page.now)) next;
    }
