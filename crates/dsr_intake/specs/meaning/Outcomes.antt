-- The results of a run: the statement of the texts was written, or what was written if it fails.
use Rattle.std.specs.Prelude.{◌≡◌, ◌≤◌, List, length, take, false}
use Rattle.std.specs.Io.KnownBytes.{Keeps}
use Rattle.dsr_file.specs.meaning.Runs.{FileText}
use Rattle.dsr_io.specs.meaning.Told.{Told}
use Rattle.dsr_intake.specs.declared.options.Options.{Options}
use Rattle.dsr_intake.specs.declared.errors.RunError.{RunError}
use Rattle.dsr_intake.specs.declared.errors.RunError.TheVariants as error
use Rattle.dsr_statement.specs.declared.verdict.Status.{Status}
use Rattle.dsr_intake.specs.meaning.Texts.{IsLate, GaveEach, report_of_texts}
use Rattle.dsr_statement.specs.meaning.Statement.{statement_of}
use Rattle.dsr_statement.specs.meaning.Status.{status_of}
use Rattle.dsr_io.specs.meaning.Written.{Written, IsFlushed, IsCut}

-- the main result: the statement of the files' texts was written
pub record IsReported {R : Type 0} (told : R → Told) (options : Options) (readers left : List R)
    (before after : Written) (texts : List FileText) (status : Status) : Type 0 where
  -- each text is what the reader at its place gave, with its end
  pub given : GaveEach told options readers left texts
  -- exactly the statement of the texts was written, and then flushed, once
  pub written : IsFlushed (statement_of (report_of_texts options.layout texts)) before after
  -- the outlet has not failed
  pub sound : after.failed ≡ false
  -- the status is that of the same report
  pub status_is : status ≡ status_of (report_of_texts options.layout texts)

-- nothing was written or flushed
pub record IsUntouched (before after : Written) : Type 0 where
  pub kept : Keeps before.contents after.contents
  pub taken : after.taken ≡ before.taken
  pub failed : after.failed ≡ before.failed
  pub flushes : after.flushes ≡ before.flushes
  pub unflushed : after.unflushed ≡ before.unflushed

-- nothing was written, or the first bytes of the statement of the texts, and the outlet failed
abbrev pub IsUnwritten : {R : Type 0} → (R → Told) → Options → List R → List R → Written → Written → RunError → Type 0
IsUnwritten told options readers left before after (error.Intake e) = IsUntouched before after
IsUnwritten told options readers left before after error.Memory =
    (texts : List FileText) × GaveEach told options readers left texts × IsUntouched before after
IsUnwritten told options readers left before after (error.Write written) =
    (texts : List FileText) × GaveEach told options readers left texts
    × (written ≤ length (statement_of (report_of_texts options.layout texts)))
    × IsCut (take written (statement_of (report_of_texts options.layout texts))) before after

-- an error that is not one of the options or of the number of files
abbrev pub IsLateRun : RunError → Type 0
IsLateRun (error.Intake e) = IsLate e
IsLateRun error.Memory = Unit {0}
IsLateRun (error.Write written) = Unit {0}
