-- The seal of a report.
use Rattle.std.specs.Prelude.{◌≡◌, true, List, ◌++◌, length, Option}
use Rattle.std.specs.List.{list_all}
use Rattle.dsr_ledger.specs.declared.report.Report.{Report}
use Rattle.dsr_statement.specs.declared.line.Line.{Line}
use Rattle.dsr_statement.specs.meaning.Digests.{Digest}
use Rattle.dsr_statement.specs.meaning.Lines.{is_line}
use Rattle.dsr_statement.specs.meaning.Statement.{statement_lines}
use Rattle.dsr_statement.specs.meaning.Status.{status_of}
use Rattle.dsr_statement.specs.meaning.Seals.{seal_lines}

-- the seal of a report's statement
abbrev pub seal_of : Option Digest → List Digest → Report → List Line
seal_of layout inputs r = seal_lines layout inputs (length (statement_lines r)) (status_of r)

-- the lines of a report's sealed statement
abbrev pub sealed_lines : Option Digest → List Digest → Report → List Line
sealed_lines layout inputs r = statement_lines r ++ seal_of layout inputs r

-- digests with which a report's statement is sealed: one for each file, each spelled as in a seal, and numbers in their ranges
pub record AreDigestsOf (layout : Option Digest) (inputs : List Digest) (r : Report) : Type 0 where
  pub each : length inputs ≡ length r.files
  pub spelled : list_all is_line (seal_of layout inputs r) ≡ true
