use Rattle.dsr_cells.proofs.Common.{◌∙◌, sym}
use Rattle.dsr_cells.proofs.Ordered.{by_numbers}
use Rattle.dsr_cells.proofs.isrc.IsrcOrd.cmp.Goals as goal

pub returns : goal.returns
returns c =
    let same =
    by_numbers 8 c.args.self.now c.args.other.now (c.front.ensures.twelve ∙ sym c.front-2.ensures.twelve) c.front.ensures.bytes c.front-2.ensures.bytes in
    cc
