-- From what the stages of a program say to what it does.
use Rattle.dsr_command.proofs.Common.{◌≡◌, ◌∙◌, ◌++◌, ℕ, List, None, Some, refl, ap, subst, sym, inl, inr, map}
use Rattle.std.specs.Prelude.{Option, Result, Ok, Err}
use Rattle.dsr_command.specs.declared.identity.FileIdentity.{FileIdentity}
use Rattle.dsr_command.specs.declared.inputs.OpenError.{OpenError}
use Rattle.dsr_command.specs.declared.new_file.NewFileError.{NewFileError}
use Rattle.dsr_command.specs.Faults.{IsTold}
use Rattle.dsr_command.specs.NewFiles.{IsCreated, IsSettled, cannot_replace_line, new_file_line, new_file_status}
use Rattle.dsr_command.specs.Outputs.{IsOnlyTold, Outputs, outputs}
use Rattle.dsr_command.specs.Programs.{HadFiles, HadOutput, HadTexts, IsEnded, WroteInto, WroteOut}
use Rattle.dsr_command.specs.World.{AreSources, Disk, Ghosts, made}
use Rattle.dsr_io.specs.declared.source.Failed.{Failed}
use Rattle.dsr_io.specs.meaning.Written.{Written}

-- only this was told, and the output is as it was
pub only_told : (out f h : Written) (text : List ℕ) → IsTold f h text → IsOnlyTold text (outputs out f) (outputs out h)
only_told out f h text told = record { out = refl; told = told }

module _ {R N T E : Type 0} (g : Ghosts R N) (program : List ℕ) (Writes : List R → List R → Written → Written → Result T E → Type 0)
    (Tells : Result T E → Written → Written → ℕ → Type 0) (file : R → Option FileIdentity) (d : Disk)
    (besides files read : List (Option FileIdentity)) (texts : Result (List (List ℕ)) OpenError) (sources : List R)
    (are : AreSources g.told file texts files sources) (read_is : besides ++ files ≡ read) where
  read_are : besides ++ map file sources ≡ read
  read_are = ap (λ fs. besides ++ fs) are.files_are ∙ read_is

  had_texts : (left : Option Disk) (output named : Option (List ℕ)) (before after : Outputs) (s : ℕ) → output ≡ named
      → HadOutput g program Writes Tells d left read are.bytes before after s named
      → HadFiles g program Writes Tells d left read output before after s texts
  had_texts left output named before after s is had =
      inl (subst (HadTexts g program Writes Tells d left read output before after s) (sym are.texts_are)
      (subst (HadOutput g program Writes Tells d left read are.bytes before after s) (sym is) had))

  -- the text was written to standard output
  pub printed : (left : Option Disk) (output : Option (List ℕ)) (before after : Outputs) (s : ℕ) → output ≡ None
      → WroteOut Writes Tells sources before after s → left ≡ Some d → HadFiles g program Writes Tells d left read output before after s texts
  printed left output before after s is had same = had_texts left output None before after s is (sources, are.fresh, had, same)

  -- the text was written to a new file
  pub stored : (between left : Option Disk) (output : Option (List ℕ)) (name : List ℕ) (new : N × List ℕ) (out f h : Written) (s : ℕ)
      → output ≡ Some name → IsCreated g.written d between (besides ++ map file sources) name (Ok new)
      → WroteInto g.written program Writes Tells sources new.0 name (made d) left f h s
      → HadFiles g program Writes Tells d left read output (outputs out f) (outputs out h) s texts
  stored between left output name new out f h s is created had =
      let beside = subst (λ fs. IsCreated g.written d between fs name (Ok new)) read_are created in
      had_texts left output (Some name) (outputs out f) (outputs out h) s is (inl (sources, are.fresh, beside.0, new.0, beside.1.2, had, refl))

  -- there is no new file
  pub unstored : (left : Option Disk) (output : Option (List ℕ)) (name : List ℕ) (error : NewFileError) (out f h : Written) (s : ℕ)
      → output ≡ Some name → IsCreated g.written d left (besides ++ map file sources) name (Err error)
      → IsTold f h (new_file_line program name error) → s ≡ new_file_status error
      → HadFiles g program Writes Tells d left read output (outputs out f) (outputs out h) s texts
  unstored left output name error out f h s is none told status =
      let not = subst (λ fs. IsCreated g.written d left fs name (Err error)) read_are none in
      had_texts left output (Some name) (outputs out f) (outputs out h) s is
      (inr (error, not, only_told out f h (new_file_line program name error) told, status))

module _ {T E : Type 0} (program : List ℕ) (Tells : Result T E → Written → Written → ℕ → Type 0) (contents : Option (List ℕ)) (name : List ℕ)
    (d : Disk) (left : Option Disk) (f h : Written) (s : ℕ) where
  -- the new file is where the answer says
  pub settled : (answer : Result T E) (done : Unit {0}) → IsSettled contents name d left answer (Ok done) → Tells answer f h s
      → IsEnded program Tells contents name d left f h s answer
  settled (Ok v) done placed told = inl (placed, told)
  settled (Err e) done removed told = (removed, told)

  -- it could not be put in its place
  pub unsettled : (answer : Result T E) (failed : Failed) → IsSettled contents name d left answer (Err failed)
      → IsTold f h (cannot_replace_line program name) → s ≡ 3 → IsEnded program Tells contents name d left f h s answer
  unsettled (Ok v) failed removed told is = inr (removed, told, is)
  unsettled (Err e) failed removed told is = absurd removed
