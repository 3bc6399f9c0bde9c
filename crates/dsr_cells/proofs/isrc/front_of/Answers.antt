use Rattle.dsr_cells.proofs.Common.{◌∙◌, rules}
use Rattle.dsr_cells.proofs.Ordered.{front_number}
use Rattle.dsr_cells.proofs.isrc.front_of.Goals as goal

pub returns-clause-value : goal.returns-clause-value
returns-clause-value c = c.from_be_bytes.ensures ∙ front_number c.args.bytes.now (search rules)
