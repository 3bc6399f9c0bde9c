use Rattle.std.proofs.Common.{rules, ℕ, List, subst}
use Rattle.dsr_statement.specs.meaning.Cells.{Number64}
use Rattle.dsr_statement.specs.inner.Lenient.{Reads}
use Rattle.dsr_statement.proofs.Rows.{read_64, outcome_read}
use Rattle.dsr_statement.proofs.file.read_outcome.Goals as goal

pub returns : goal.returns
returns c =
    let number = subst (λ (t : List ℕ). Reads Number64 t c.read_u64.result) c.at.ensures (read_64 _ _ c.read_u64.ensures) in
    outcome_read c.args.row.now c.read_u64.result c.read_fault.result c.fault_of.result (search rules) number c.read_fault.ensures c.fault_of.ensures
