-- What is asked of options and readers, what a thread promises, what holds of a tap and of the books while they are collected, and why that stops.
use Rattle.std.specs.Prelude.{Bool, true, false, not, List, [], ◌∷◌, Result, Ok, Err, ◌≡◌, ◌<◌, ◌≤◌, length, All, map, ℕ, ◌+◌, Some, slice_get, take, ◌^◌, ◌++◌, None, IsSome, slice_set, ◌↔◌, ◌⊎◌, if◌then◌else◌}
use Rattle.std.specs.List.{sum_by}
use Rattle.dsr_events.specs.declared.event.EventPart.{EventPart}
use Rattle.dsr_events.specs.declared.fault.Outcome.{Outcome}
use Rattle.dsr_events.specs.meaning.Orderly.{Placed, has_ended}
use Rattle.dsr_events.specs.layer.Orderly.{IsOrderly}
use Rattle.dsr_events.specs.layer.Names.{is_memory}
use Rattle.dsr_file.specs.declared.reading.ReadFileError.{ReadFileError}
use Rattle.dsr_file.specs.meaning.Runs.{FileText, events_of_text}
use Rattle.dsr_io.specs.meaning.Told.{Told}
use Rattle.dsr_file.specs.meaning.Sources.{GaveText}
use Rattle.dsr_intake.specs.declared.options.Options.{Options}
use Rattle.dsr_intake.specs.declared.options.TheConstants.{MOST_READERS, MOST_MESSAGES, MOST_READS}
use Rattle.dsr_ledger.specs.declared.closed.ClosedBooks.{ClosedBooks}
use Rattle.dsr_ledger.specs.inner.BooksWords.{AreClosed, Stands, files_count}
use Rattle.dsr_intake.specs.meaning.Texts.{GaveEach, file_of}
use Rattle.dsr_relay.specs.layer.Views.{TapView}
use Rattle.dsr_intake.specs.declared.errors.CollectError.{CollectError}
use Rattle.dsr_intake.specs.declared.errors.CollectError.TheVariants.{Memory, Closed}
use Rattle.dsr_intake.specs.declared.errors.IntakeError.{IntakeError}
use Rattle.dsr_ledger.specs.declared.report.Report.{Report}
use Rattle.dsr_intake.specs.declared.errors.RunError.{RunError}
use Rattle.dsr_intake.specs.meaning.Outcomes.{IsUntouched}
use Rattle.dsr_statement.specs.meaning.Statement.{statement_of}
use Rattle.dsr_io.specs.meaning.Written.{Written, IsCut}
use Rattle.dsr_ledger.specs.declared.books.Books.{Books}
use Rattle.dsr_ledger.specs.meaning.Files.{File}
use Rattle.dsr_ledger.specs.layer.Files.{opened, add_block, end_with}
use Rattle.dsr_file.specs.declared.reading.ReadFileError.TheVariants as failed
use Rattle.dsr_intake.specs.declared.errors.IntakeError.TheVariants as intake
use Rattle.dsr_intake.specs.declared.errors.RunError.TheVariants as error
use Rattle.dsr_events.specs.declared.event.EventPart.TheVariants as part

-- the part is an Ended, and Memory is not its fault
abbrev pub is_clean_end : EventPart → Bool
is_clean_end (part.Opened opening) = false
is_clean_end (part.Block block) = false
is_clean_end (part.Ended outcome) = not (is_memory outcome)

-- the last event is an Ended, and Memory is not its fault
abbrev pub ends_clean : List Placed → Bool
ends_clean [] = false
ends_clean (e ∷ []) = is_clean_end e.part
ends_clean (e ∷ f ∷ es) = ends_clean (f ∷ es)

-- memory was refused for the reader, or while it read
abbrev pub was_refused_memory : Result Outcome ReadFileError → Bool
was_refused_memory (Ok outcome) = is_memory outcome
was_refused_memory (Err failed.Memory) = true
was_refused_memory (Err (failed.Refused event)) = false

-- if what was sent has a clean end, it is the events of a text that the source gave
pub record IsGiven (options : Options) (before after : Told) (sent : List Placed) : Type 0 where
  pub given : ends_clean sent ≡ true → (text : FileText)
      × GaveText options.layout options.max_reads before after text × (sent ≡ events_of_text options.layout text)

pub record AreReady {R : Type 0} (told : R → Told) (options : Options) (readers : List R) : Type 0 where
  pub some_files : 0 < length readers
  pub most_files : length readers ≤ MOST_READERS
  pub some_messages : 0 < options.capacity
  pub most_messages : options.capacity ≤ MOST_MESSAGES
  pub some_reads : 0 < options.max_reads
  pub most_reads : options.max_reads ≤ MOST_READS
  pub fresh : All (λ r. (told r).failed ≡ false) readers

-- the books are closed, and represent the files of the texts that the readers gave
abbrev pub AreBooksOf : {R : Type 0} → (R → Told) → Options → List R → List R → ClosedBooks → Type 0
AreBooksOf told options readers left books =
    (texts : List FileText) × GaveEach told options readers left texts
    × AreClosed books (map (λ text. file_of (events_of_text options.layout text)) texts)

-- an error Closed has the number, from 1, of a tap that has not ended
abbrev pub IsStopped : List TapView → CollectError → Type 0
IsStopped taps Memory = Unit {0}
IsStopped taps (Closed k) =
    (i : ℕ) × (t : TapView) × (k ≡ i + 1) × (slice_get taps i ≡ Some t) × (has_ended t.taken ≡ false)

-- the error of an intake whose collector stopped: the same, of the file with the tap's number
abbrev pub intake_error_of : CollectError → IntakeError
intake_error_of Memory = intake.Memory
intake_error_of (Closed k) = intake.Broken k

-- the error of an intake whose threads were not all started
abbrev pub IsStartError : IntakeError → Type 0
IsStartError e = (e ≡ intake.Memory) ⊎ (e ≡ intake.Thread)

-- the error of an intake that has no books: that of its start, or of its collector
abbrev pub IsCause : List TapView → IntakeError → Type 0
IsCause taps e = IsStartError e ⊎ ((stopped : CollectError) × IsStopped taps stopped × (e ≡ intake_error_of stopped))

-- if memory was refused for a thread, that is the error
abbrev pub first_error : IntakeError → Bool → IntakeError
first_error e memory = if memory then intake.Memory else e

-- memory was refused, and nothing was written; or the outlet took the first bytes of the report's statement, and failed
abbrev pub IsUnfinished : Report → Written → Written → RunError → Type 0
IsUnfinished report before after (error.Intake e) = (e ≡ intake.Memory) × IsUntouched before after
IsUnfinished report before after error.Memory = IsUntouched before after
IsUnfinished report before after (error.Write written) =
    (written ≤ length (statement_of report)) × IsCut (take written (statement_of report)) before after

-- the file with a later event added
abbrev pub with_part : File → EventPart → File
with_part f (part.Opened o) = f
with_part f (part.Block b) = add_block b f
with_part f (part.Ended o) = end_with o f

abbrev pub is_opening : EventPart → Bool
is_opening (part.Opened o) = true
is_opening (part.Block b) = false
is_opening (part.Ended o) = false

-- the file by its first event; that is never a block, so the value for Block is never used
abbrev pub first_file : EventPart → File
first_file (part.Opened o) = opened (Some o)
first_file (part.Block b) = opened None
first_file (part.Ended o) = end_with o (opened None)

-- file k of the list is this file
abbrev pub IsFileAt : List File → ℕ → File → Type 0
IsFileAt files k f = slice_get files k ≡ Some f

-- the file can take one more event: it has an opening, has not ended, and has fewer than 2^37 blocks
pub record IsGoing (f : File) : Type 0 where
  pub running : f.outcome ≡ None
  pub opened : IsSome f.opening
  pub short : length f.blocks < 2 ^ 37

-- the books represent some list that has this file at k
abbrev pub Knows : Books → ℕ → File → Type 0
Knows books k f = (files : List File) × Stands books files × IsFileAt files k f

-- if the old books represent a list with f at k, the new ones represent it with g there
abbrev pub Changes : Books → Books → ℕ → File → File → Type 0
Changes old new k f g = (files : List File) → Stands old files → IsFileAt files k f → Stands new (slice_set files k g)

-- file k is the next to be opened
abbrev pub IsNext : Books → ℕ → Type 0
IsNext books k = (files : List File) × Stands books files × (length files ≡ k) × (k < files_count books)

-- if the old books represent a list of k files, the new ones represent it with f appended
abbrev pub Opens : Books → Books → ℕ → File → Type 0
Opens old new k f = (files : List File) → Stands old files → length files ≡ k → Stands new (files ++ f ∷ [])

-- events were taken of the tap, in order, and none of them is an Ended with Memory
pub record IsTapped (t : TapView) : Type 0 where
  pub orderly : IsOrderly t.taken
  pub some : 0 < length t.taken
  pub clean : has_ended t.taken ≡ true → ends_clean t.taken ≡ true

-- these events follow, in order, those that were taken before, which did not end their file
pub record IsFollowed (taken events : List Placed) : Type 0 where
  pub some : 0 < length taken
  pub running : has_ended taken ≡ false
  pub orderly : IsOrderly (taken ++ events)

-- the new books represent the list with these events added to file k, and they do not end it with Memory
abbrev pub TakesAll : Books → Books → ℕ → List Placed → List Placed → Type 0
TakesAll old new k taken events =
    Changes old new k (file_of taken) (file_of (taken ++ events))
    × (has_ended (taken ++ events) ≡ true → ends_clean (taken ++ events) ≡ true)

-- the collector stops because of tap i, from 0, or because memory was refused
abbrev pub IsStoppedAt : ℕ → TapView → CollectError → Type 0
IsStoppedAt i t Memory = Unit {0}
IsStoppedAt i t (Closed k) = (k ≡ i + 1) × (has_ended t.taken ≡ false)

-- all events of the tap were taken, and it did not end with Memory
abbrev pub IsDrained : TapView → Type 0
IsDrained t = IsOrderly t.taken × (ends_clean t.taken ≡ true)

-- the number of all events that were taken
abbrev pub taken_count : List TapView → ℕ
taken_count taps = sum_by (λ t. length t.taken) taps

-- whether a count grew
abbrev pub HasMore : Bool → ℕ → ℕ → Type 0
HasMore any before after = (before ≤ after) × (any ≡ true ↔ before < after)
