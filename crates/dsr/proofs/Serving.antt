-- From what a run says to what the program does.
use Rattle.std.proofs.Common.{◌≡◌, ◌∷◌, ◌++◌, [], ℕ, List, ap, subst}
use Rattle.std.specs.Prelude.{Option}
use Rattle.dsr_command.specs.declared.command.Asked.{Asked}
use Rattle.dsr_command.specs.declared.identity.FileIdentity.{FileIdentity}
use Rattle.dsr_command.specs.declared.sealing.Sealing.{Sealing}
use Rattle.dsr_command.specs.Faults.{dsr}
use Rattle.dsr_command.specs.LayoutFile.{layout_file, sealing_for}
use Rattle.dsr_command.specs.Outputs.{Outputs}
use Rattle.dsr_command.specs.Programs.{HadFiles}
use Rattle.dsr_command.specs.World.{Disk, Ghosts, files_for, texts_for}
use Rattle.dsr_intake.specs.declared.options.Options.{Options}
use Rattle.dsr.specs.Serving.{IsAnswerFor, IsAnswerTold, IsRead, files_read}

-- the files that are read are that of the layout and those of the report
pub all_read : (d : Disk) (asked : Asked) (layout : Option FileIdentity) → layout ≡ layout_file d asked.layout
    → (layout ∷ []) ++ files_for d asked.files ≡ files_read d asked
all_read d asked layout is = ap (λ x. x ∷ files_for d asked.files) is

-- the seal is the one that is asked for
pub sealed_as_asked : {R N : Type 0} (g : Ghosts R N) (d : Disk) (left : Option Disk) (asked : Asked) (options : Options) (seal : Option Sealing)
    (before after : Outputs) (s : ℕ) → seal ≡ sealing_for d asked
    → HadFiles g dsr (IsAnswerFor g.told options seal) IsAnswerTold d left (files_read d asked) asked.output before after s (texts_for d asked.files)
    → IsRead g d left asked options before after s
sealed_as_asked g d left asked options seal before after s is had =
    subst (λ x. HadFiles g dsr (IsAnswerFor g.told options x) IsAnswerTold d left (files_read d asked) asked.output before after s
    (texts_for d asked.files)) is had
