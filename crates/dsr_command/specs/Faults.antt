-- The exit status of a run, the line for its error, and how a line is told.
use Rattle.std.specs.Prelude.{ℕ, List, [], ◌∷◌, ◌++◌, codes, decimal, Result, Ok, Err, ◌≤◌, length, Bool, true, false, map, take, ◌==◌, if◌then◌else◌}
use Rattle.std.specs.List.{concat}
use Rattle.std.specs.Borrow.{Bor}
use Rattle.dsr_io.specs.meaning.Written.{Written, IsFlushed, IsCut}
use Rattle.dsr_intake.specs.declared.errors.IntakeError.{IntakeError}
use Rattle.dsr_intake.specs.declared.errors.RunError.{RunError}
use Rattle.dsr_statement.specs.declared.verdict.Status.{Status}
use Rattle.dsr_statement.specs.declared.verdict.Status.TheVariants.{Clean, Remarks}
use Rattle.dsr_records.specs.declared.fault.LayoutError.{LayoutError}
use Rattle.dsr_records.specs.declared.fault.LayoutFault.{LayoutFault}
use Rattle.dsr_command.specs.declared.layout_file.LayoutReadError.{LayoutReadError}
use Rattle.dsr_command.specs.declared.layout_file.LayoutReadError.TheVariants.{CannotOpen, Read, Bad, Memory}
use Rattle.dsr_command.specs.declared.inputs.OpenError.{OpenError}
use Rattle.dsr_intake.specs.declared.errors.IntakeError.TheVariants as intake
use Rattle.dsr_intake.specs.declared.errors.RunError.TheVariants as run
use Rattle.dsr_records.specs.declared.fault.LayoutFault.TheVariants as layout
use Rattle.dsr_command.specs.declared.inputs.OpenError.TheVariants as unopened

-- the exit status of a run: 0 clean, 1 with remarks, 3 if it failed
abbrev pub status_number : Result Status RunError → ℕ
status_number (Ok Clean) = 0
status_number (Ok Remarks) = 1
status_number (Err error) = 3

-- the name of the program that reads reports
abbrev pub dsr : List ℕ
dsr = codes "dsr"

-- a line of a program on standard error
abbrev pub line_of : List ℕ → List ℕ → List ℕ
line_of program text = program ++ (codes ": " ++ (text ++ 10 ∷ []))

abbrev pub closed_line : ℕ → List ℕ
closed_line file = codes "dsr: relay of file " ++ (decimal file ++ (codes " closed early" ++ 10 ∷ []))

-- the line for a write that failed
abbrev pub failed_line : List ℕ → ℕ → List ℕ
failed_line program written = program ++ (codes ": write failed after " ++ (decimal written ++ (codes " bytes" ++ 10 ∷ [])))

abbrev pub intake_line : IntakeError → List ℕ
intake_line intake.NoFiles = line_of dsr (codes "no files")
intake_line intake.TooManyFiles = line_of dsr (codes "too many files")
intake_line intake.Capacity = line_of dsr (codes "capacity out of range")
intake_line intake.Reads = line_of dsr (codes "reads out of range")
intake_line intake.Memory = line_of dsr (codes "out of memory")
intake_line intake.Thread = line_of dsr (codes "cannot start a thread")
intake_line (intake.Broken file) = closed_line file

-- the line for a failed run
abbrev pub fault_line : RunError → List ℕ
fault_line (run.Intake error) = intake_line error
fault_line run.Memory = line_of dsr (codes "out of memory")
fault_line (run.Write written) = failed_line dsr written

abbrev pub layout_fault_text : LayoutFault → List ℕ
layout_fault_text layout.Large = codes "Large"
layout_fault_text layout.LongLine = codes "LongLine"
layout_fault_text layout.NotUtf8 = codes "NotUtf8"
layout_fault_text layout.UnknownRole = codes "UnknownRole"
layout_fault_text layout.BadType = codes "BadType"
layout_fault_text layout.RoleTwice = codes "RoleTwice"
layout_fault_text layout.TypeTwice = codes "TypeTwice"
layout_fault_text layout.BadPosition = codes "BadPosition"
layout_fault_text layout.ManySkips = codes "ManySkips"
layout_fault_text layout.MissingRole = codes "MissingRole"

-- a name as a line shows it: the empty one as two quotes
abbrev pub shown : List ℕ → List ℕ
shown name = if length name == 0 then codes "''" else name

-- the line for a file that cannot be opened
abbrev pub cannot_open_line : List ℕ → List ℕ → List ℕ
cannot_open_line program name = program ++ (codes ": cannot open " ++ (shown name ++ 10 ∷ []))

-- the line for a file that is opened and cannot be read
abbrev pub cannot_read_line : List ℕ → List ℕ → List ℕ
cannot_read_line program name = program ++ (codes ": cannot read " ++ (shown name ++ 10 ∷ []))

-- the line for the first fault of a layout
abbrev pub bad_layout_line : LayoutError → List ℕ
bad_layout_line error = codes "dsr: bad layout at line "
    ++ (decimal error.line ++ (codes ": " ++ (layout_fault_text error.fault ++ 10 ∷ [])))

-- the line for a layout that cannot be had
abbrev pub layout_refused_line : List ℕ → LayoutReadError → List ℕ
layout_refused_line name CannotOpen = cannot_open_line dsr name
layout_refused_line name Read = cannot_read_line dsr name
layout_refused_line name (Bad error) = bad_layout_line error
layout_refused_line name Memory = line_of dsr (codes "out of memory")

-- the exit status for a layout that cannot be had: 2 if its file cannot be opened or read, or is bad
abbrev pub layout_refused_status : LayoutReadError → ℕ
layout_refused_status CannotOpen = 2
layout_refused_status Read = 2
layout_refused_status (Bad error) = 2
layout_refused_status Memory = 3

-- the line for files that are not opened
abbrev pub unopened_line : List ℕ → OpenError → List ℕ
unopened_line program (unopened.CannotOpen name) = cannot_open_line program name
unopened_line program unopened.InputTwice = line_of program (codes "standard input is named twice")
unopened_line program unopened.Memory = line_of program (codes "out of memory")

-- the exit status for files that are not opened
abbrev pub unopened_status : OpenError → ℕ
unopened_status (unopened.CannotOpen name) = 2
unopened_status unopened.InputTwice = 2
unopened_status unopened.Memory = 3

-- the parts, one after another
abbrev pub joined : List (Bor (List ℕ)) → List ℕ
joined parts = concat (map (λ p. p.now) parts)

-- the whole line was written and flushed; or only its first n bytes were written, and the outlet failed
abbrev pub IsWritten : Bool → Written → Written → List ℕ → Type 0
IsWritten true before after line = IsFlushed line before after
IsWritten false before after line = (n : ℕ) × (n ≤ length line) × IsCut (take n line) before after

-- the whole line was written and flushed, or the outlet failed in it
abbrev pub IsTold : Written → Written → List ℕ → Type 0
IsTold before after line = (taken : Bool) × IsWritten taken before after line
