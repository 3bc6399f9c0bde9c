-- What the program does: what it writes to standard output and standard error or to a file, and its exit status, by its words
-- and the bytes behind names.
use Rattle.std.specs.Prelude.{◌≡◌, ◌≤◌, ◌⊎◌, ◌-◌, ◌∷◌, ◌++◌, ℕ, List, [], length, map, take, Option, None, Some, Result, Ok, Err, IfOk, IfErr, MatchOption, unwrap_or}
use Rattle.dsr_command.specs.CommandLine.{IsAskedFor, IsFaultFor}
use Rattle.dsr_command.specs.declared.command.Asked.{Asked}
use Rattle.dsr_command.specs.declared.command.CommandFault.{CommandFault}
use Rattle.dsr_command.specs.declared.identity.FileIdentity.{FileIdentity}
use Rattle.dsr_command.specs.declared.layout_file.LayoutReadError.{LayoutReadError}
use Rattle.dsr_command.specs.declared.sealing.Sealing.{Sealing}
use Rattle.dsr_command.specs.declared.world.WordsFault.{WordsFault}
use Rattle.dsr_command.specs.Faults.{dsr, fault_line, layout_refused_line, layout_refused_status, status_number, IsTold}
use Rattle.dsr_command.specs.LayoutFile.{AreAsked, IsLayoutRefused, layout_file, sealing_for}
use Rattle.dsr_command.specs.Outputs.{IsOnlyTold, IsTurnedDown, Outputs, no_words_line, no_words_status}
use Rattle.dsr_command.specs.Programs.{HadFiles}
use Rattle.dsr_command.specs.World.{Disk, Ghosts, LacksWords, files_for, texts_for}
use Rattle.dsr_file.specs.meaning.Runs.{FileText}
use Rattle.dsr_io.specs.meaning.Told.{Told}
use Rattle.dsr_io.specs.meaning.Written.{Written, IsFlushed, IsCut}
use Rattle.dsr_intake.specs.declared.errors.IntakeError.{IntakeError}
use Rattle.dsr_intake.specs.declared.errors.IntakeError.TheVariants as intake
use Rattle.dsr_intake.specs.declared.errors.RunError.{RunError}
use Rattle.dsr_intake.specs.declared.errors.RunError.TheVariants as run
use Rattle.dsr_intake.specs.declared.options.Options.{Options}
use Rattle.dsr_intake.specs.meaning.Outcomes.{IsLateRun, IsReported, IsUnwritten}
use Rattle.dsr_intake.specs.meaning.Texts.{refusal_of, report_of_texts}
use Rattle.dsr_seal.specs.meaning.Counts.{line_feeds}
use Rattle.dsr_seal.specs.meaning.Digests.{digest_of}
use Rattle.dsr_statement.specs.declared.verdict.Status.{Status}
use Rattle.dsr_statement.specs.meaning.Seals.{seal_lines}
use Rattle.dsr_statement.specs.meaning.Statement.{statement_of, text_of}

-- a run is refused for this reason before it reads, or memory was refused before it began
abbrev pub IsRefusedFor : Result Status RunError → IntakeError → Type 0
IsRefusedFor answer error = (answer ≡ Err (run.Intake error)) ⊎ (answer ≡ Err (run.Intake intake.Memory))

-- a run over these sources had this answer: the statement of what they gave was written, or what there is of it where a run
-- fails; it is refused before it reads for its options or the number of its files, and only then
pub record IsAnswer {R : Type 0} (told : R → Told) (options : Options) (sources left : List R) (before after : Written)
    (answer : Result Status RunError) : Type 0 where
  pub reported : IfOk answer (λ status. (texts : List FileText) × IsReported told options sources left before after texts status)
  pub unwritten : IfErr answer (IsUnwritten told options sources left before after)
  pub refused : MatchOption (refusal_of (length sources) options) (IfErr answer IsLateRun) (IsRefusedFor answer)

-- each source gave the bytes at its place: those that it has not left any more
abbrev pub GaveBytes : {R : Type 0} → (R → Told) → List R → List R → List (List ℕ) → Type 0
GaveBytes told [] [] [] = Unit {0}
GaveBytes told (r ∷ rs) (s ∷ ss) (bytes ∷ more) =
    ((rest : List ℕ) × ((told r).remaining ≡ Some (bytes ++ rest)) × ((told s).remaining ≡ Some rest)) × GaveBytes told rs ss more
GaveBytes told _ _ _ = ⊥

-- the seal of a statement: of the layout, of the bytes that the sources gave, of its number of lines and of its status
abbrev pub seal_of : Sealing → List (List ℕ) → List ℕ → Status → List ℕ
seal_of seal given statement status = text_of (seal_lines seal.layout (map digest_of given) (line_feeds statement) status)

-- the statement of what the sources gave was written and flushed; and where it is known what the outlet held and what the
-- sources gave, the rest is what `Ends` says, of the statement and its seal
pub record IsStated {R : Type 0} (told : R → Told) (options : Options) (seal : Sealing) (sources left : List R) (before : Written) (status : Status)
    (Ends : List ℕ → List ℕ → Written → Type 0) : Type 0 where
  pub texts : List FileText
  pub stated : Written
  pub reported : IsReported told options sources left before stated texts status
  pub sealed : (held : List ℕ) (given : List (List ℕ)) → before.contents ≡ Some held → GaveBytes told sources left given
      → let statement = statement_of (report_of_texts options.layout texts) in Ends statement (seal_of seal given statement status) stated

-- of the statement and its seal this many first bytes were written, which end in the seal, and the outlet failed
abbrev pub IsSealCut : ℕ → Written → List ℕ → List ℕ → Written → Type 0
IsSealCut written after statement seal stated =
    (length statement ≤ written) × (written ≤ length (statement ++ seal)) × IsCut (take (written - length statement) seal) stated after

-- a run with a seal had this answer: the statement was written and flushed, and then its seal, which was flushed too; or what
-- there is of them where a run fails
abbrev pub IsSealed : {R : Type 0} → (R → Told) → Options → Sealing → List R → List R → Written → Written → Result Status RunError → Type 0
IsSealed told options seal sources left before after (Ok status) =
    IsStated told options seal sources left before status (λ statement sealed stated. IsFlushed sealed stated after)
IsSealed told options seal sources left before after (Err error) = IsUnwritten told options sources left before after error
    ⊎ ((status : Status) × (written : ℕ) × (error ≡ run.Write written)
    × IsStated told options seal sources left before status (IsSealCut written after))

-- it is refused before it reads as a run without one is
pub record IsSealedAnswer {R : Type 0} (told : R → Told) (options : Options) (seal : Sealing) (sources left : List R) (before after : Written)
    (answer : Result Status RunError) : Type 0 where
  pub sealed : IsSealed told options seal sources left before after answer
  pub refused : MatchOption (refusal_of (length sources) options) (IfErr answer IsLateRun) (IsRefusedFor answer)

-- the same, with a seal if one is asked for
abbrev pub IsAnswerFor : {R : Type 0} → (R → Told) → Options → Option Sealing → List R → List R → Written → Written → Result Status RunError → Type 0
IsAnswerFor told options None = IsAnswer told options
IsAnswerFor told options (Some seal) = IsSealedAnswer told options seal

-- standard error has the line of an error, and nothing more if there is none; and this is the exit status
abbrev pub IsAnswerTold : Result Status RunError → Written → Written → ℕ → Type 0
IsAnswerTold (Ok verdict) before after status = (after ≡ before) × (status ≡ status_number (Ok verdict))
IsAnswerTold (Err error) before after status = IsTold before after (fault_line error) × (status ≡ 3)

-- the files that are read: the layout's, if one is named, and those of the report
abbrev pub files_read : Disk → Asked → List (Option FileIdentity)
files_read disk asked = layout_file disk asked.layout ∷ files_for disk asked.files

-- with these options, there was a run over the bytes behind the names, and its statement went where it is asked for; or they
-- cannot be opened, or memory was refused
abbrev pub IsRead : {R N : Type 0} → Ghosts R N → Disk → Option Disk → Asked → Options → Outputs → Outputs → ℕ → Type 0
IsRead g disk left asked options before after status =
    HadFiles g dsr (IsAnswerFor g.told options (sealing_for disk asked)) IsAnswerTold disk left (files_read disk asked) asked.output before after status
    (texts_for disk asked.files)

-- first the layout was had, and then the files were read; or there is no layout, and no file of the report was opened
abbrev pub IsServedFor : {R N : Type 0} → Ghosts R N → Disk → Option Disk → Asked → Outputs → Outputs → ℕ → Type 0
IsServedFor g disk left asked before after status =
    ((options : Options) × AreAsked disk asked options × IsRead g disk left asked options before after status)
    ⊎ ((error : LayoutReadError) × IsLayoutRefused g.told disk asked.layout error
    × IsOnlyTold (layout_refused_line (unwrap_or asked.layout []) error) before after × (status ≡ layout_refused_status error) × (left ≡ Some disk))

-- what the program does for these words: what they ask for, if they have no fault
abbrev pub IsDone : {R N : Type 0} → Ghosts R N → Disk → Option Disk → List (List ℕ) → Outputs → Outputs → ℕ → Type 0
IsDone g disk left words before after status =
    ((asked : Asked) × IsAskedFor words asked × IsServedFor g disk left asked before after status)
    ⊎ ((fault : CommandFault) × IsFaultFor words fault × IsTurnedDown dsr fault before after status × (left ≡ Some disk))

-- what the program does: what it does for its words, or it has none
abbrev pub IsServed : {R N : Type 0} → Ghosts R N → Disk → Option Disk → Outputs → Outputs → ℕ → Type 0
IsServed g disk left before after status =
    ((words : List (List ℕ)) × (disk.words ≡ Some words) × IsDone g disk left words before after status)
    ⊎ ((error : WordsFault) × LacksWords disk error
    × IsOnlyTold (no_words_line dsr error) before after × (status ≡ no_words_status error) × (left ≡ Some disk))
