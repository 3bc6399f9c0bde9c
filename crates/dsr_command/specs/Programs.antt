-- What both programs do with the files that they opened: where their text goes, what is told of it, and where a new file is.
use Rattle.std.specs.Prelude.{◌≡◌, ◌⊎◌, ◌-◌, ℕ, List, [], Option, None, Some, Result, Ok, Err}
use Rattle.dsr_command.specs.declared.identity.FileIdentity.{FileIdentity}
use Rattle.dsr_command.specs.declared.inputs.OpenError.{OpenError}
use Rattle.dsr_command.specs.declared.new_file.NewFileError.{NewFileError}
use Rattle.dsr_command.specs.Faults.{IsTold, unopened_line, unopened_status}
use Rattle.dsr_command.specs.NewFiles.{IsNotCreated, cannot_replace_line, new_file_line, new_file_status}
use Rattle.dsr_command.specs.Outputs.{IsOnlyTold, IsWithoutMemory, Outputs}
use Rattle.dsr_command.specs.World.{AreFresh, Disk, Ghosts, IsApart, IsReplacedIn, failing, made, removed}
use Rattle.dsr_io.specs.meaning.Written.{Written}

-- the text of these sources was written to standard output, with this answer; `Tells` is what it says of the answer
abbrev pub WroteOut : {R A : Type 0} → (List R → List R → Written → Written → A → Type 0) → (A → Written → Written → ℕ → Type 0) → List R
    → Outputs → Outputs → ℕ → Type 0
WroteOut {R} {A} Writes Tells sources before after status =
    (answer : A) × (left : List R) × Writes sources left before.out after.out answer × Tells answer before.fault after.fault status

-- where the new file of a text with this answer is: only after an Ok it is in the place of the file of this name, and else it is
-- removed; if it cannot be put there, a line says so
abbrev pub IsEnded : {T E : Type 0} → List ℕ → (Result T E → Written → Written → ℕ → Type 0) → Option (List ℕ) → List ℕ → Disk → Option Disk
    → Written → Written → ℕ → Result T E → Type 0
IsEnded program Tells contents name disk left before after status (Ok value) =
    (IsReplacedIn contents name (disk.parts - 1) disk left × Tells (Ok value) before after status)
    ⊎ ((left ≡ Some (removed (failing disk))) × IsTold before after (cannot_replace_line program name) × (status ≡ 3))
IsEnded program Tells contents name disk left before after status (Err error) = (left ≡ Some (removed disk)) × Tells (Err error) before after status

-- the text of these sources was written to this new file, with this answer, and this is where the file is
abbrev pub WroteInto : {R N T E : Type 0} → (N → Written) → List ℕ → (List R → List R → Written → Written → Result T E → Type 0) → (Result T E → Written → Written → ℕ → Type 0)
    → List R → N → List ℕ → Disk → Option Disk → Written → Written → ℕ → Type 0
WroteInto {R} {N} {T} {E} written program Writes Tells sources new name disk left before after status =
    (answer : Result T E) × (rest : List R) × (whole : N) × Writes sources rest (written new) (written whole) answer
    × IsEnded program Tells (written whole).contents name disk left before after status answer

-- the text of sources of these bytes was written to standard output; or, with nothing there, to a new file for the file that is
-- named, which is none of those that are read; or no such file can be had
abbrev pub HadOutput : {R N T E : Type 0} → Ghosts R N → List ℕ → (List R → List R → Written → Written → Result T E → Type 0) → (Result T E → Written → Written → ℕ → Type 0)
    → Disk → Option Disk → List (Option FileIdentity) → List (List ℕ) → Outputs → Outputs → ℕ → Option (List ℕ) → Type 0
HadOutput {R} g program Writes Tells disk left read texts before after status None =
    (sources : List R) × AreFresh g.told sources texts × WroteOut Writes Tells sources before after status × (left ≡ Some disk)
HadOutput {R} {N} g program Writes Tells disk left read texts before after status (Some name) =
    ((sources : List R) × AreFresh g.told sources texts × IsApart (disk.place name) read × (new : N) × ((g.written new).contents ≡ Some [])
    × WroteInto g.written program Writes Tells sources new name (made disk) left before.fault after.fault status × (after.out ≡ before.out))
    ⊎ ((error : NewFileError) × IsNotCreated disk left read name error
    × IsOnlyTold (new_file_line program name error) before after × (status ≡ new_file_status error))

-- the same of the bytes that are to be read; or they cannot be had: the first file that cannot be opened, or standard input,
-- which is named twice
abbrev pub HadTexts : {R N T E : Type 0} → Ghosts R N → List ℕ → (List R → List R → Written → Written → Result T E → Type 0) → (Result T E → Written → Written → ℕ → Type 0)
    → Disk → Option Disk → List (Option FileIdentity) → Option (List ℕ) → Outputs → Outputs → ℕ → Result (List (List ℕ)) OpenError → Type 0
HadTexts g program Writes Tells disk left read output before after status (Ok texts) =
    HadOutput g program Writes Tells disk left read texts before after status output
HadTexts g program Writes Tells disk left read output before after status (Err error) =
    IsOnlyTold (unopened_line program error) before after × (status ≡ unopened_status error) × (left ≡ Some disk)

-- the same, unless memory was refused
abbrev pub HadFiles : {R N T E : Type 0} → Ghosts R N → List ℕ → (List R → List R → Written → Written → Result T E → Type 0) → (Result T E → Written → Written → ℕ → Type 0)
    → Disk → Option Disk → List (Option FileIdentity) → Option (List ℕ) → Outputs → Outputs → ℕ → Result (List (List ℕ)) OpenError → Type 0
HadFiles g program Writes Tells disk left read output before after status texts =
    HadTexts g program Writes Tells disk left read output before after status texts
    ⊎ (IsWithoutMemory program before after status × (left ≡ Some disk))
