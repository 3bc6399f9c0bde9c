-- What a reading has read of a statement, and what it adds to the totals.
use Rattle.std.specs.Prelude.{◌≡◌, ◌⊎◌, ℕ, suc, ◌==◌, Bool, true, false, List, [], ◌∷◌, ◌++◌, length, map, reverse, All, Some, None, Result, Ok, Err}
use Rattle.std.specs.List.{slice_split}
use Rattle.std.specs.Io.KnownBytes.{Consumes, IsAtEnd, Keeps}
use Rattle.dsr_io.specs.declared.source.Failed.{Failed}
use Rattle.dsr_io.specs.meaning.Told.{Told}
use Rattle.dsr_statement.specs.declared.line.Line.{Line}
use Rattle.dsr_statement.specs.declared.fault.StatementFault.{StatementFault}
use Rattle.dsr_statement.specs.inner.After.{IsAfter}
use Rattle.dsr_statement.specs.meaning.Readings.{Refusal, IsNextLine, IsReadingAfter, IsReadingOf, end_fault}
use Rattle.dsr_sums.specs.declared.reading.Reading.{Reading}
use Rattle.dsr_sums.specs.declared.reading.ReadingError.{ReadingError}
use Rattle.dsr_sums.specs.declared.reading.ReadingError.TheVariants as errors
use Rattle.dsr_sums.specs.declared.reports.StatementReport.{StatementReport}
use Rattle.dsr_sums.specs.declared.reports.Role.{Role}
use Rattle.dsr_sums.specs.declared.totals.Totals.{Totals}
use Rattle.dsr_sums.specs.meaning.Answers.{StatementText, statement_of, whole_statement}
use Rattle.dsr_sums.specs.meaning.Sources.{Gave}
use Rattle.dsr_sums.specs.meaning.Statements.{Statement, key_of_lines}
use Rattle.dsr_sums.specs.meaning.Totals.{Booked, booked}
use Rattle.dsr_sums.specs.inner.Books.{HoldsLines}

-- the pieces between line feeds
abbrev pub pieces : List ℕ → List (List ℕ)
pieces bytes = slice_split (λ b. b == 10) bytes

abbrev pub HasNoLineFeed : List ℕ → Type 0
HasNoLineFeed bytes = All (λ b. (b == 10) ≡ false) bytes

-- these lines were read
pub record Reads (r : Reading) (done : List Line) : Type 0 where
  pub after : IsAfter r.reader (reverse done)
  pub key : r.key ≡ key_of_lines done

-- the totals hold these lines of a statement too
abbrev pub AddsLines : Role → Totals → Totals → List Line → Type 0
AddsLines role old new ls = (bs : List Booked) → HoldsLines old bs → HoldsLines new (bs ++ map (booked role) ls)

-- the line of this text was taken
abbrev pub TakesLine : Reading → Reading → Totals → Totals → List Line → List ℕ → Type 0
TakesLine old new before after done text =
    (l : Line) × IsNextLine (reverse done) text (Ok l) × Reads new (done ++ l ∷ []) × AddsLines old.role before after (l ∷ [])

abbrev pub with_lines : List Line → Result (List Line) Refusal → Result (List Line) Refusal
with_lines ls (Ok more) = Ok (ls ++ more)
with_lines ls (Err refusal) = Err refusal

-- bytes are these lines: whatever follows them is read after them
abbrev pub AreLinesOf : List Line → List ℕ → List Line → Type 0
AreLinesOf done bytes ls = (rest : List ℕ) (failed : Bool) (read : Result (List Line) Refusal)
    → IsReadingAfter (reverse (done ++ ls)) (pieces rest) failed read
    → IsReadingAfter (reverse done) (pieces (bytes ++ rest)) failed (with_lines ls read)

-- the lines of these bytes were taken
abbrev pub TakesLines : Reading → Reading → Totals → Totals → List Line → List ℕ → Type 0
TakesLines old new before after done bytes =
    (ls : List Line) × AreLinesOf done bytes ls × Reads new (done ++ ls) × AddsLines old.role before after ls

abbrev pub refusal : ℕ → StatementFault → Refusal
refusal line fault = record { line = line; fault = fault }

-- the line of this text is refused after these lines, unless memory was refused
abbrev pub IsRefusedAt : List Line → List ℕ → ReadingError → Type 0
IsRefusedAt done text (errors.Refused line fault) = (line ≡ suc (length done)) × IsNextLine (reverse done) text (Err fault)
IsRefusedAt done text errors.Memory = Unit {0}

-- an error is that of a result, unless memory was refused
abbrev pub IsErrorOf : {A : Type 0} → Result A Refusal → ReadingError → Type 0
IsErrorOf r (errors.Refused line fault) = r ≡ Err (refusal line fault)
IsErrorOf r errors.Memory = Unit {0}

-- the bytes after these lines have this fault, whatever follows them
abbrev pub IsRefusedIn : List Line → List ℕ → ReadingError → Type 0
IsRefusedIn done bytes (errors.Refused line fault) =
    (more : List ℕ) (failed : Bool) → IsReadingAfter (reverse done) (pieces (bytes ++ more)) failed (Err (refusal line fault))
IsRefusedIn done bytes errors.Memory = Unit {0}

-- the statement ends here, with what follows its last line feed
abbrev pub FinishesAt : Bool → Role → List Line → List ℕ → Bool → Result StatementReport ReadingError → Type 0
FinishesAt unsealed role done rest failed (Ok report) =
    (end_fault (reverse done) rest failed ≡ None) × (whole_statement unsealed role done ≡ Ok (record { report = report; lines = done }))
    × (report.role ≡ role)
FinishesAt unsealed role done rest failed (Err (errors.Refused line fault)) =
    ((end_fault (reverse done) rest failed ≡ Some fault) × (line ≡ suc (length done)))
    ⊎ ((end_fault (reverse done) rest failed ≡ None) × (whole_statement unsealed role done ≡ Err (refusal line fault)))
FinishesAt unsealed role done rest failed (Err errors.Memory) = Unit {0}

abbrev pub text_with : Role → (bytes : List ℕ) (failed : Bool) (read : Result (List Line) Refusal) → IsReadingOf bytes failed read → StatementText
text_with role bytes failed read is = record { role = role; bytes = bytes; failed = failed; read = read; is_read = is }

-- a statement was read and its lines were added to the totals, or it was refused
abbrev pub ReadAs : Role → Totals → Totals → Result Statement Refusal → Result StatementReport ReadingError → Type 0
ReadAs role before after s (Ok report) =
    (ls : List Line) × (s ≡ Ok (record { report = report; lines = ls })) × (report.role ≡ role) × AddsLines role before after ls
ReadAs role before after s (Err e) = IsErrorOf s e

-- the source gave a text, which was read so; unless memory was refused
abbrev pub IsReadFrom : Told → Told → Bool → Role → Totals → Totals → Result StatementReport ReadingError → Type 0
IsReadFrom told left unsealed role before after (Err errors.Memory) = Unit {0}
IsReadFrom told left unsealed role before after result =
    (bytes : List ℕ) × (failed : Bool) × (read : Result (List Line) Refusal) × (is : IsReadingOf bytes failed read)
    × Gave told left (text_with role bytes failed read is) × ReadAs role before after (statement_of unsealed role read) result

-- what was read so far: the lines of some bytes, and what follows their last line feed
pub record IsReading (before now : Told) (role : Role) (start totals : Totals) (r : Reading) (kept : List ℕ) : Type 0 where
  pub bytes : List ℕ
  pub ls : List Line
  pub consumed : Consumes before.remaining now.remaining (bytes ++ kept)
  pub sound : now.failed ≡ false
  pub role_is : r.role ≡ role
  pub reads : Reads r ls
  pub lines : AreLinesOf [] bytes ls
  pub added : AddsLines role start totals ls
  pub short : HasNoLineFeed kept

-- a read put these bytes of a source behind others, or failed
abbrev pub ReadsBehind : Told → Told → List ℕ → List ℕ → Result ℕ Failed → Type 0
ReadsBehind before now old new (Ok n) =
    (piece : List ℕ) × (new ≡ old ++ piece) × Consumes before.remaining now.remaining piece × (n ≡ 0 → (piece ≡ []) × IsAtEnd now.remaining)
    × (now.failed ≡ before.failed)
ReadsBehind before now old new (Err failed) = (new ≡ old) × Keeps before.remaining now.remaining × (now.failed ≡ true)
