-- From what the stages say to what the program does.
use Rattle.std.proofs.Common.{◌≡◌, ℕ, List, subst, sym, inl, inr, codes}
use Rattle.std.specs.Prelude.{◌⊎◌, Option, Some, Ok, Err}
use Rattle.dsr_command.proofs.Programs.{only_told}
use Rattle.dsr_totals.specs.declared.command.Asked.{Asked}
use Rattle.dsr_command.specs.declared.identity.FileIdentity.{FileIdentity}
use Rattle.dsr_command.specs.declared.inputs.OpenError.{OpenError}
use Rattle.dsr_command.specs.declared.inputs.OpenError.TheVariants.{CannotOpen, InputTwice, Memory}
use Rattle.dsr_command.specs.Faults.{IsTold, cannot_read_line, line_of, unopened_line, unopened_status}
use Rattle.dsr_command.specs.Outputs.{Outputs, outputs}
use Rattle.dsr_command.specs.Programs.{HadTexts}
use Rattle.dsr_command.specs.World.{Disk, Ghosts}
use Rattle.dsr_io.specs.meaning.Written.{Written}
use Rattle.dsr_totals.specs.declared.lists.InputError.{InputError}
use Rattle.dsr_totals.specs.declared.lists.InputError.TheVariants.{Open, Read}
use Rattle.dsr_totals.specs.declared.opening.Opened.{Opened}
use Rattle.dsr_totals.specs.Refusals.{dsr_totals, unread_line, unread_status}
use Rattle.dsr_totals.specs.Steps.{AreOpened, AreUnopened}
use Rattle.dsr_totals.specs.Totaling.{IsAnswerTold, WroteTotals}
use Rattle.dsr_totals.specs.Serving.{HadLists, HadStatements, IsServedFor, files_read, lists_asked, texts_asked, with_listed}

module _ {R N : Type 0} (g : Ghosts R N) (file : R → Option FileIdentity) (d : Disk) (left : Option Disk) (asked : Asked) where
  -- the statements were opened and added up
  pub served : (now : Asked) (opened : Opened R) (before after : Outputs) (s : ℕ) → AreOpened g.told file d asked now opened
      → HadStatements g d left now before after s → IsServedFor g d left asked before after s
  served now opened before after s are had =
      inl (subst (HadLists g d left asked before after s) (sym are.lists_are)
      (subst (λ a. HadStatements g d left a before after s) are.now_is had))

  -- one of them cannot be opened
  unopened : (error : OpenError) (out f h : Written) (s : ℕ)
      → (lists_asked d asked ≡ Err error)
      ⊎ ((texts : List (List ℕ)) × (lists_asked d asked ≡ Ok texts) × (texts_asked d (with_listed asked texts) ≡ Err error))
      → IsTold f h (unopened_line dsr_totals error) → s ≡ unopened_status error → left ≡ Some d
      → IsServedFor g d left asked (outputs out f) (outputs out h) s
  unopened error out f h s (inl e) told is same =
      inl (subst (HadLists g d left asked (outputs out f) (outputs out h) s) (sym e) (only_told out f h (unopened_line dsr_totals error) told, is, same))
  unopened error out f h s (inr (texts, lists, e)) told is same =
      inl (subst (HadLists g d left asked (outputs out f) (outputs out h) s) (sym lists) (inl (
      let now = with_listed asked texts in
      subst (HadTexts g dsr_totals (WroteTotals g.told now) (IsAnswerTold now) d left (files_read d now) now.output (outputs out f) (outputs out h) s) (sym e)
      (only_told out f h (unopened_line dsr_totals error) told, is, same))))

  -- they were not opened
  pub unserved : (error : InputError) (out f h : Written) (s : ℕ) → AreUnopened g.told d asked error → IsTold f h (unread_line error)
      → s ≡ unread_status error → left ≡ Some d → IsServedFor g d left asked (outputs out f) (outputs out h) s
  unserved (Open (CannotOpen name)) out f h s e told is same = unopened (CannotOpen name) out f h s e told is same
  unserved (Open InputTwice) out f h s e told is same = unopened InputTwice out f h s e told is same
  unserved (Open Memory) out f h s e told is same = inr (inr ((only_told out f h (line_of dsr_totals (codes "out of memory")) told, is), same))
  unserved (Read list) out f h s (named, unreadable) told is same =
      inr (inl (list, named, unreadable, only_told out f h (cannot_read_line dsr_totals list) told, is, same))
