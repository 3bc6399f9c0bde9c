-- What both programs write to standard output and standard error before they read a file, and their exit status.
use Rattle.std.specs.Prelude.{◌≡◌, ◌≤◌, ◌⊎◌, ℕ, List, length, take, codes}
use Rattle.dsr_command.specs.declared.command.CommandFault.{CommandFault}
use Rattle.dsr_command.specs.declared.command.CommandFault.TheVariants.{Help, Refused, Memory}
use Rattle.dsr_command.specs.declared.world.WordsFault.{WordsFault}
use Rattle.dsr_command.specs.declared.world.WordsFault.TheVariants as unread
use Rattle.dsr_command.specs.Faults.{failed_line, line_of, IsTold}
use Rattle.dsr_io.specs.meaning.Written.{Written, IsFlushed, IsCut}

-- standard output and standard error
pub record Outputs : Type 0 where
  pub out : Written
  pub fault : Written

abbrev pub outputs : Written → Written → Outputs
outputs out fault = record { out = out; fault = fault }

-- nothing was written but this text, to standard error, of which only the first bytes were written if that failed
pub record IsOnlyTold (text : List ℕ) (before after : Outputs) : Type 0 where
  pub out : after.out ≡ before.out
  pub told : IsTold before.fault after.fault text

-- memory was refused before a file was read
abbrev pub IsWithoutMemory : List ℕ → Outputs → Outputs → ℕ → Type 0
IsWithoutMemory program before after status = IsOnlyTold (line_of program (codes "out of memory")) before after × (status ≡ 3)

-- a text that was asked for was written whole; or the output failed in it, and a line says after how many bytes
abbrev pub IsShown : List ℕ → List ℕ → Outputs → Outputs → ℕ → Type 0
IsShown program text before after status =
    (IsFlushed text before.out after.out × (after.fault ≡ before.fault) × (status ≡ 0))
    ⊎ ((n : ℕ) × (n ≤ length text) × IsCut (take n text) before.out after.out × IsTold before.fault after.fault (failed_line program n) × (status ≡ 3))

-- what is done for words that ask for no run
abbrev pub IsTurnedDown : List ℕ → CommandFault → Outputs → Outputs → ℕ → Type 0
IsTurnedDown program (Help text) before after status = IsShown program text before after status
IsTurnedDown program (Refused text) before after status = IsOnlyTold text before after × (status ≡ 2)
IsTurnedDown program Memory before after status = IsWithoutMemory program before after status

-- the line and the exit status where there are no words
abbrev pub no_words_line : List ℕ → WordsFault → List ℕ
no_words_line program unread.NotUtf8 = line_of program (codes "an argument is not UTF-8")
no_words_line program unread.Memory = line_of program (codes "out of memory")

abbrev pub no_words_status : WordsFault → ℕ
no_words_status unread.NotUtf8 = 2
no_words_status unread.Memory = 3
