-- The options of an intake, and what is refused before anything is read; the texts of several files, and their report.
use Rattle.std.specs.Prelude.{ℕ, Option, Some, None, ◌==◌, ◌||◌, nat_lt, List, [], ◌∷◌, map, if◌then◌else◌}
use Rattle.dsr_intake.specs.declared.options.Options.{Options}
use Rattle.dsr_intake.specs.declared.options.TheConstants.{MOST_READERS, MOST_MESSAGES, MOST_READS}
use Rattle.dsr_intake.specs.declared.errors.IntakeError.{IntakeError}
use Rattle.std.specs.List.{filter_map}
use Rattle.dsr_events.specs.meaning.Blocks.{BlockParts}
use Rattle.dsr_records.specs.meaning.Records.{LayoutTable}
use Rattle.dsr_events.specs.declared.fault.Outcome.{Outcome}
use Rattle.dsr_events.specs.meaning.Openings.{OpeningParts}
use Rattle.dsr_events.specs.meaning.Orderly.{Placed}
use Rattle.dsr_file.specs.meaning.Runs.{FileText, events_of_text}
use Rattle.dsr_io.specs.meaning.Told.{Told, HoldsGiven}
use Rattle.dsr_file.specs.meaning.Sources.{GaveText}
use Rattle.dsr_ledger.specs.declared.report.Report.{Report}
use Rattle.dsr_ledger.specs.meaning.Files.{File}
use Rattle.dsr_ledger.specs.meaning.Reports.{report_of}
use Rattle.dsr_intake.specs.declared.errors.IntakeError.TheVariants as error
use Rattle.dsr_events.specs.declared.event.EventPart.TheVariants as part

-- the error of this number of files under these options, found before anything is read: the first that applies
abbrev pub refusal_of : ℕ → Options → Option IntakeError
refusal_of files o =
    if files == 0 then Some error.NoFiles
    else (if nat_lt MOST_READERS files then Some error.TooManyFiles
    else (if (o.capacity == 0) || nat_lt MOST_MESSAGES o.capacity then Some error.Capacity
    else (if (o.max_reads == 0) || nat_lt MOST_READS o.max_reads then Some error.Reads
    else None)))

-- an error that is not one of the options or of the number of files
abbrev pub IsLate : IntakeError → Type 0
IsLate error.NoFiles = ⊥
IsLate error.TooManyFiles = ⊥
IsLate error.Capacity = ⊥
IsLate error.Reads = ⊥
IsLate error.Memory = Unit {0}
IsLate error.Thread = Unit {0}
IsLate (error.Broken file) = Unit {0}

-- each source gave the text at its place
abbrev pub GaveEach : {R : Type 0} → (R → Told) → Options → List R → List R → List FileText → Type 0
GaveEach told options [] [] [] = Unit {0}
GaveEach told options (r ∷ rs) (s ∷ ss) (t ∷ ts) =
    GaveText options.layout options.max_reads (told r) (told s) t × GaveEach told options rs ss ts
GaveEach told options _ _ _ = ⊥

-- what each source keeps of the bytes that it gave before, it keeps of these and of those that it gave since
abbrev pub HoldEach : {R : Type 0} → (R → Told) → (R → List ℕ → Type 0) → List R → List R → Type 0
HoldEach told holds [] [] = Unit {0}
HoldEach told holds (r ∷ rs) (s ∷ ss) = HoldsGiven told holds r s × HoldEach told holds rs ss
HoldEach told holds _ _ = ⊥

abbrev pub opening_in : Placed → Option OpeningParts
opening_in e = elim e.part [ part.Opened o ↦ Some o | part.Block b ↦ None | part.Ended o ↦ None ]

abbrev pub block_in : Placed → Option BlockParts
block_in e = elim e.part [ part.Opened o ↦ None | part.Block b ↦ Some b | part.Ended o ↦ None ]

abbrev pub outcome_in : Placed → Option Outcome
outcome_in e = elim e.part [ part.Opened o ↦ None | part.Block b ↦ None | part.Ended o ↦ Some o ]

abbrev pub first : {A : Type 0} → List A → Option A
first [] = None
first (x ∷ xs) = Some x

-- the file of a list of events
abbrev pub file_of : List Placed → File
file_of events =
    record {
      opening = first (filter_map opening_in events);
      blocks = filter_map block_in events;
      outcome = first (filter_map outcome_in events);
    }

-- the report of the texts of several files
unfoldable pub report_of_texts : LayoutTable → List FileText → Report
report_of_texts layout texts = report_of (map (λ text. file_of (events_of_text layout text)) texts)
