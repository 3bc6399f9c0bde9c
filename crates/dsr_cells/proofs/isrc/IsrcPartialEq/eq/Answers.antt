use Rattle.dsr_cells.proofs.Common.{◌∙◌, ap, is_eq, is_eq-slice_cmp}
use Rattle.dsr_cells.proofs.isrc.IsrcPartialEq.eq.Goals as goal

pub returns : goal.returns
returns c = c.is_eq.ensures ∙ ap is_eq c.cmp.ensures ∙ is_eq-slice_cmp c.args.self.now c.args.other.now
