use Rattle.std.proofs.Common.{arith, ap, ◌∙◌, ◌-◌, ◌≤◌, drop, length, take}
use Rattle.std.proofs.lemmas.List.{length-take-le}
use Rattle.dsr_sums.proofs.KeptLemmas.{moved}
use Rattle.dsr_sums.proofs.kept.Kept.drop_front.Goals as goal

pub returns : goal.returns
returns c =
    let kept = c.self.inside.count in
    let room = c.self.inside.room in
    let low : c.args.count ≤ kept = omega (arith, c.requires, ap length c.self.view_is, length-take-le kept room c.self.invariant) in
    ap (take (kept - c.args.count)) c.copy_within.ensures.after ∙ moved room kept c.args.count low c.self.invariant ∙ ap (drop c.args.count) c.self.view_is
