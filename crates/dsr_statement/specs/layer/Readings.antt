-- What a whole text is read as.
use Rattle.std.specs.Prelude.{ℕ, false, List, Result}
use Rattle.dsr_statement.specs.declared.line.Line.{Line}
use Rattle.dsr_statement.specs.meaning.Readings.{Refusal, IsReadingOf}

-- what is read of a whole text
abbrev pub IsReading : List ℕ → Result (List Line) Refusal → Type 0
IsReading text read = IsReadingOf text false read
