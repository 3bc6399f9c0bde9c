-- The place of a refusal.
use Rattle.std.specs.Prelude.{ℕ}
use Rattle.dsr_statement.specs.declared.fault.StatementFault.{StatementFault}
use Rattle.dsr_statement.specs.meaning.Readings.{Refusal}

abbrev pub line_and_fault : Refusal → ℕ × StatementFault
line_and_fault r = (r.line, r.fault)
