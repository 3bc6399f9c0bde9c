use Rattle.std.proofs.Common.{arith}
use Rattle.dsr_seal.proofs.SealLines.{length-origin_lines}
use Rattle.dsr_seal.proofs.write.lines_before_end.Goals as goal

pub returns : goal.returns
returns c =
    let all = length-origin_lines (λ d. d.now) c.args.layout c.args.inputs.now c.is_some.result c.from.result c.is_some.ensures c.from.ensures in
    omega (arith, all, c.saturating_add.ensures, c.saturating_add-2.ensures)
