-- New files that take the place of others: where they end, and the lines of those that cannot be had.
use Rattle.std.specs.Prelude.{◌≡◌, ◌⊎◌, ◌-◌, ℕ, List, ◌∷◌, [], ◌++◌, codes, Option, None, Some, Result, Ok, Err}
use Rattle.dsr_cells.specs.meaning.Written.{padded_number}
use Rattle.dsr_io.specs.declared.source.Failed.{Failed}
use Rattle.dsr_io.specs.meaning.Written.{Written}
use Rattle.dsr_command.specs.declared.identity.FileIdentity.{FileIdentity}
use Rattle.dsr_command.specs.declared.identity.Place.{Place}
use Rattle.dsr_command.specs.declared.identity.Place.TheVariants.{Other}
use Rattle.dsr_command.specs.declared.new_file.NewFileError.{NewFileError}
use Rattle.dsr_command.specs.declared.new_file.NewFileError.TheVariants.{IsRead, CannotCreate, Memory}
use Rattle.dsr_command.specs.World.{Disk, IsApart, IsOneRead, IsReplacedIn, failing, made, removed, stands_for}
use Rattle.dsr_command.specs.Faults.{line_of, shown}

-- why there can be no new file for this place, if there can be none
abbrev pub IsPlaceFault : Place → List (Option FileIdentity) → Option NewFileError → Type 0
IsPlaceFault place read None = IsApart place read
IsPlaceFault place read (Some IsRead) = IsOneRead place read
IsPlaceFault place read (Some CannotCreate) = place ≡ Other
IsPlaceFault place read (Some Memory) = ⊥

-- the name of a new file beside the one of this name
abbrev pub part_of : List ℕ → ℕ → List ℕ
part_of place number = place ++ (codes "." ++ (padded_number 20 number ++ codes ".part"))

abbrev pub IsPartOf : List ℕ → List ℕ → Type 0
IsPartOf place part = (number : ℕ) × (part ≡ part_of place number)

-- no new file was made: the name's links have no end, or a call has failed; or memory was refused
abbrev pub IsUnmade : Disk → Option Disk → List ℕ → NewFileError → Type 0
IsUnmade before after name IsRead = ⊥
IsUnmade before after name CannotCreate = ((stands_for before name ≡ None) × (after ≡ Some before)) ⊎ (after ≡ Some (failing before))
IsUnmade before after name Memory = after ≡ Some before

-- a new file was made, for the place that the name stands for
abbrev pub IsMade : {N : Type 0} → (N → Written) → Disk → Option Disk → List ℕ → Result (N × List ℕ) NewFileError → Type 0
IsMade written before after name (Ok new) =
    (stands_for before name ≡ Some new.1) × (after ≡ Some (made before)) × ((written new.0).contents ≡ Some [])
IsMade written before after name (Err error) = IsUnmade before after name error

-- there is no new file: the place of the output is a file that is read, or no ordinary file; or none was made
abbrev pub IsNotCreated : Disk → Option Disk → List (Option FileIdentity) → List ℕ → NewFileError → Type 0
IsNotCreated before after read name IsRead = IsOneRead (before.place name) read × (after ≡ Some before)
IsNotCreated before after read name CannotCreate =
    ((before.place name ≡ Other) × (after ≡ Some before)) ⊎ (IsApart (before.place name) read × IsUnmade before after name CannotCreate)
IsNotCreated before after read name Memory = IsApart (before.place name) read × IsUnmade before after name Memory

-- a new file was created for a place that is none of the files that are read; or there is none, for this reason
abbrev pub IsCreated : {N : Type 0} → (N → Written) → Disk → Option Disk → List (Option FileIdentity) → List ℕ
    → Result (N × List ℕ) NewFileError → Type 0
IsCreated written before after read name (Ok new) = IsApart (before.place name) read × IsMade written before after name (Ok new)
IsCreated written before after read name (Err error) = IsNotCreated before after read name error

-- a new file is in its place, or it could not be put there and was removed
abbrev pub IsPlaced : Option (List ℕ) → List ℕ → Disk → Option Disk → Result (Unit {0}) Failed → Type 0
IsPlaced contents name before after (Ok done) = IsReplacedIn contents name (before.parts - 1) before after
IsPlaced contents name before after (Err failed) = after ≡ Some (removed (failing before))

-- where a new file ends: only after an Ok is it in the place of the other file, and else it is removed. Failed says that it
-- could not be put there
abbrev pub IsSettled : {T E : Type 0} → Option (List ℕ) → List ℕ → Disk → Option Disk → Result T E → Result (Unit {0}) Failed → Type 0
IsSettled contents name before after (Ok value) result = IsPlaced contents name before after result
IsSettled contents name before after (Err error) (Ok done) = after ≡ Some (removed before)
IsSettled contents name before after (Err error) (Err failed) = ⊥

-- the line for a file that cannot be put in its place
abbrev pub cannot_replace_line : List ℕ → List ℕ → List ℕ
cannot_replace_line program name = program ++ (codes ": cannot replace " ++ (shown name ++ 10 ∷ []))

-- the line for a new file that cannot be had
abbrev pub new_file_line : List ℕ → List ℕ → NewFileError → List ℕ
new_file_line program name IsRead = program ++ (codes ": cannot write to " ++ (shown name ++ (codes ", which is read" ++ 10 ∷ [])))
new_file_line program name CannotCreate = program ++ (codes ": cannot create " ++ (shown name ++ 10 ∷ []))
new_file_line program name Memory = line_of program (codes "out of memory")

-- the exit status for a new file that cannot be had
abbrev pub new_file_status : NewFileError → ℕ
new_file_status IsRead = 2
new_file_status CannotCreate = 2
new_file_status Memory = 3
