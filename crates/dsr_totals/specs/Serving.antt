-- What the program does: what it writes to standard output and standard error or to a file, and its exit status, by its words
-- and the bytes behind names.
use Rattle.std.specs.Prelude.{◌≡◌, ◌⊎◌, ◌++◌, ℕ, List, map, Option, Some, Result, Ok, Err}
use Rattle.std.specs.List.{Contains}
use Rattle.dsr_command.specs.declared.command.CommandFault.{CommandFault}
use Rattle.dsr_command.specs.declared.identity.FileIdentity.{FileIdentity}
use Rattle.dsr_command.specs.declared.inputs.OpenError.{OpenError}
use Rattle.dsr_command.specs.declared.world.WordsFault.{WordsFault}
use Rattle.dsr_command.specs.Faults.{cannot_read_line, unopened_line, unopened_status}
use Rattle.dsr_command.specs.Outputs.{IsOnlyTold, IsTurnedDown, IsWithoutMemory, Outputs, no_words_line, no_words_status}
use Rattle.dsr_command.specs.Programs.{HadFiles}
use Rattle.dsr_command.specs.World.{Disk, Ghosts, LacksWords, files_for, names_read, texts_for, texts_of, unless_twice, with_input}
use Rattle.dsr_io.specs.meaning.Told.{Told}
use Rattle.dsr_totals.specs.CommandLine.{IsAskedFor, IsFaultFor}
use Rattle.dsr_totals.specs.declared.command.Asked.{Asked}
use Rattle.dsr_totals.specs.Lists.{IsUnreadable, names_listed}
use Rattle.dsr_totals.specs.Refusals.{dsr_totals}
use Rattle.dsr_totals.specs.Totaling.{IsAnswerTold, WroteTotals}

-- what is asked for once lists of these bytes were read: the names in them stand behind those of the paid statements
abbrev pub with_listed : Asked → List (List ℕ) → Asked
with_listed asked texts = record asked { paid = asked.paid ++ names_listed texts }

-- texts behind given ones that are there
abbrev pub behind_given : Result (List (List ℕ)) OpenError → Result (List (List ℕ)) OpenError → Result (List (List ℕ)) OpenError
behind_given (Err error) texts = Err error
behind_given (Ok given) texts = texts

-- the bytes of the lists, in order; or why a given statement or a list cannot be opened, the first one
abbrev pub lists_asked : Disk → Asked → Result (List (List ℕ)) OpenError
lists_asked disk asked = behind_given (texts_for disk asked.given) (texts_of disk.files asked.lists)

-- texts before others; or why one of them cannot be opened
abbrev pub both_texts : Result (List (List ℕ)) OpenError → Result (List (List ℕ)) OpenError → Result (List (List ℕ)) OpenError
both_texts (Err error) more = Err error
both_texts (Ok texts) (Err error) = Err error
both_texts (Ok texts) (Ok more) = Ok (texts ++ more)

-- the bytes of the statements, first those that are given, or of standard input if there is none, and then those that were paid;
-- among all of them standard input is named at most once
abbrev pub texts_asked : Disk → Asked → Result (List (List ℕ)) OpenError
texts_asked disk asked = unless_twice (names_read asked.given ++ asked.paid)
    (both_texts (texts_for disk asked.given) (texts_of (with_input disk).files asked.paid))

abbrev pub files_asked : Disk → Asked → List (Option FileIdentity)
files_asked disk asked = files_for disk asked.given ++ map (with_input disk).file asked.paid

-- the files that are read: the lists and the statements
abbrev pub files_read : Disk → Asked → List (Option FileIdentity)
files_read disk asked = map disk.file asked.lists ++ files_asked disk asked

-- the statements were added up, and their totals went where they are asked for; or they cannot be opened, or memory was refused
abbrev pub HadStatements : {R N : Type 0} → Ghosts R N → Disk → Option Disk → Asked → Outputs → Outputs → ℕ → Type 0
HadStatements g disk left asked before after status =
    HadFiles g dsr_totals (WroteTotals g.told asked) (IsAnswerTold asked) disk left (files_read disk asked) asked.output before after status
    (texts_asked disk asked)

-- the same with the names in lists of these bytes; or a given statement or a list cannot be opened, the first one
abbrev pub HadLists : {R N : Type 0} → Ghosts R N → Disk → Option Disk → Asked → Outputs → Outputs → ℕ → Result (List (List ℕ)) OpenError → Type 0
HadLists g disk left asked before after status (Ok texts) = HadStatements g disk left (with_listed asked texts) before after status
HadLists g disk left asked before after status (Err error) =
    IsOnlyTold (unopened_line dsr_totals error) before after × (status ≡ unopened_status error) × (left ≡ Some disk)

-- one of the lists cannot be read
abbrev pub LackedList : {R : Type 0} → (R → Told) → Disk → Option Disk → Asked → Outputs → Outputs → ℕ → Type 0
LackedList told disk left asked before after status =
    (list : List ℕ) × Contains asked.lists list × IsUnreadable told disk list
    × IsOnlyTold (cannot_read_line dsr_totals list) before after × (status ≡ 2) × (left ≡ Some disk)

-- what the program does for what is asked for
abbrev pub IsServedFor : {R N : Type 0} → Ghosts R N → Disk → Option Disk → Asked → Outputs → Outputs → ℕ → Type 0
IsServedFor g disk left asked before after status =
    HadLists g disk left asked before after status (lists_asked disk asked)
    ⊎ (LackedList g.told disk left asked before after status
    ⊎ (IsWithoutMemory dsr_totals before after status × (left ≡ Some disk)))

-- what the program does for these words: what they ask for, if they have no fault
abbrev pub IsDone : {R N : Type 0} → Ghosts R N → Disk → Option Disk → List (List ℕ) → Outputs → Outputs → ℕ → Type 0
IsDone g disk left words before after status =
    ((asked : Asked) × IsAskedFor words asked × IsServedFor g disk left asked before after status)
    ⊎ ((fault : CommandFault) × IsFaultFor words fault × IsTurnedDown dsr_totals fault before after status × (left ≡ Some disk))

-- what the program does: what it does for its words, or it has none
abbrev pub IsServed : {R N : Type 0} → Ghosts R N → Disk → Option Disk → Outputs → Outputs → ℕ → Type 0
IsServed g disk left before after status =
    ((words : List (List ℕ)) × (disk.words ≡ Some words) × IsDone g disk left words before after status)
    ⊎ ((error : WordsFault) × LacksWords disk error
    × IsOnlyTold (no_words_line dsr_totals error) before after × (status ≡ no_words_status error) × (left ≡ Some disk))
