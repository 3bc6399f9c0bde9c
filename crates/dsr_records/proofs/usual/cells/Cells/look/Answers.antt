use Rattle.dsr_records.proofs.Common.{arith, ap, ◌∙◌, ◌≡◌, ◌+◌, ◌-◌, chunk, odd_bits}
use Rattle.dsr_records.proofs.usual.cells.Cells.look.Goals as goal

pub invariant_of-result : goal.invariant_of-result
invariant_of-result c =
    let s = c.args.self in
    let all : 64 ≡ s.at + 64 - s.at = omega arith in
    record {
      order = omega arith;
      few = omega arith;
      near = omega (arith, c.if-self-gt-LAST_LOOK.false);
      behind = omega (arith, c.if-self.false);
      known = c.odd_of_64.ensures ∙ ap (λ n. odd_bits (chunk s.at n s.page.now)) all;
    }
