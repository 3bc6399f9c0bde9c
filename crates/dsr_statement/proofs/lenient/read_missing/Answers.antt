use Rattle.std.proofs.Common.{refl}
use Rattle.dsr_statement.specs.meaning.Cells.{Number32}
use Rattle.dsr_statement.specs.declared.line.Line.TheVariants as lines
use Rattle.dsr_statement.proofs.Rows.{cell_read, read_32}
use Rattle.dsr_statement.proofs.lenient.read_missing.Goals as goal

pub returns : goal.returns
returns c = λ n h e.
    c.missing_of.ensures n (cell_read Number32 c.args.row.now (lines.Missing n) 1 _ _ n (read_32 _ _ c.read_u32.ensures) c.at.ensures h e refl refl)
