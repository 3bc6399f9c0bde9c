-- What the text of a statement is read as: its lines, or its first fault.
use Rattle.std.specs.Prelude.{◌≡◌, ◌⊎◌, ℕ, suc, ◌&&◌, ◌==◌, nat_lt, Bool, true, List, [], ◌∷◌, length, Option, Some, None, Result, Ok, Err, if◌then◌else◌}
use Rattle.std.specs.List.{slice_split}
use Rattle.std.specs.Str.{is_utf8}
use Rattle.dsr_cells.specs.meaning.Cells.{cells}
use Rattle.dsr_statement.specs.declared.line.Line.{Line}
use Rattle.dsr_statement.specs.declared.fault.StatementFault.{StatementFault}
use Rattle.dsr_statement.specs.declared.fault.StatementFault.TheVariants as faults
use Rattle.dsr_statement.specs.meaning.Faults.{shape_fault}
use Rattle.dsr_statement.specs.meaning.Lines.{line_text, is_line}
use Rattle.dsr_statement.specs.meaning.Order.{placed, is_complete}

-- the most bytes of a line, without its line feed
abbrev pub most_bytes : ℕ
most_bytes = 16384

-- a text is that of this line
pub record Spells (text : List ℕ) (l : Line) : Type 0 where
  pub valid : is_line l ≡ true
  pub same : line_text l ≡ text

abbrev pub or_spelling : Option StatementFault → StatementFault
or_spelling None = faults.Spelling
or_spelling (Some fault) = fault

-- the fault of a text that is that of no line
abbrev pub fault_of : List ℕ → StatementFault
fault_of text = or_spelling (shape_fault (cells text))

-- the fault of bytes that are no text of a line, whatever its cells are
abbrev pub bytes_fault : List ℕ → Option StatementFault
bytes_fault bytes = if nat_lt most_bytes (length bytes) then Some faults.LongLine else if is_utf8 bytes then None else Some faults.NotUtf8

-- the bytes of a line, without its line feed, are the text of this line; or they have this fault and are the text of none
abbrev pub IsLineOf : List ℕ → Result Line StatementFault → Type 0
IsLineOf bytes (Ok l) = (bytes_fault bytes ≡ None) × Spells bytes l
IsLineOf bytes (Err fault) =
    (bytes_fault bytes ≡ Some fault) ⊎ ((bytes_fault bytes ≡ None) × (fault ≡ fault_of bytes) × ((l : Line) → ¬ Spells bytes l))

infixl 10 ◌>>>◌
abbrev pub ◌>>>◌ : {A B E : Type 0} → Result A E → (A → Result B E) → Result B E
(Ok x) >>> f = f x
(Err e) >>> f = Err e

-- after these lines, the latest first, the bytes of a line are those of this line; or they have this fault
abbrev pub IsNextLine : List Line → List ℕ → Result Line StatementFault → Type 0
IsNextLine before bytes next = (line : Result Line StatementFault) × IsLineOf bytes line × (next ≡ (line >>> placed before))

-- the fault of the end of a text after these lines, the latest first: what follows the last line feed, and whether a read failed
abbrev pub end_fault : List Line → List ℕ → Bool → Option StatementFault
end_fault before rest failed =
    if nat_lt most_bytes (length rest) then Some faults.LongLine
    else if failed then Some faults.Read
    else if (length rest == 0) && is_complete before then None
    else Some faults.Cut

-- a fault, and the number of its line, from 1
pub record Refusal : Type 0 where
  pub line : ℕ
  pub fault : StatementFault

-- the fault of the line after these lines
abbrev pub refused_after : List Line → StatementFault → Refusal
refused_after before fault = record { line = suc (length before); fault = fault }

abbrev pub ended : List Line → Option StatementFault → Result (List Line) Refusal
ended before None = Ok []
ended before (Some fault) = Err (refused_after before fault)

abbrev pub with_line : Line → Result (List Line) Refusal → Result (List Line) Refusal
with_line l (Ok ls) = Ok (l ∷ ls)
with_line l (Err refusal) = Err refusal

-- a line, and what is read after it; or where the line after these lines is refused
abbrev pub IsThen : List Line → (Line → Result (List Line) Refusal → Type 0) → Result Line StatementFault → Result (List Line) Refusal → Type 0
IsThen before IsRest (Ok l) read = (rest : Result (List Line) Refusal) × IsRest l rest × (read ≡ with_line l rest)
IsThen before IsRest (Err fault) read = read ≡ Err (refused_after before fault)

-- what is read of a text, given as the pieces between its line feeds, after these lines, the latest first; and whether a read
-- failed at its end
abbrev pub IsReadingAfter : List Line → List (List ℕ) → Bool → Result (List Line) Refusal → Type 0
IsReadingAfter before [] failed read = read ≡ ended before (end_fault before [] failed)
IsReadingAfter before (rest ∷ []) failed read = read ≡ ended before (end_fault before rest failed)
IsReadingAfter before (bytes ∷ next ∷ more) failed read =
    (line : Result Line StatementFault) × IsNextLine before bytes line
    × IsThen before (λ l rest. IsReadingAfter (l ∷ before) (next ∷ more) failed rest) line read

-- what is read of a text, at whose end a read failed or not: its lines, or the first fault
abbrev pub IsReadingOf : List ℕ → Bool → Result (List Line) Refusal → Type 0
IsReadingOf text failed read = IsReadingAfter [] (slice_split (λ b. b == 10) text) failed read
