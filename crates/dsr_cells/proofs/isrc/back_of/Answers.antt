use Rattle.dsr_cells.proofs.Common.{◌∙◌, rules}
use Rattle.dsr_cells.proofs.Ordered.{back_number}
use Rattle.dsr_cells.proofs.isrc.back_of.Goals as goal

pub returns : goal.returns
returns c = c.from_be_bytes.ensures ∙ back_number c.args.bytes.now (search rules)
