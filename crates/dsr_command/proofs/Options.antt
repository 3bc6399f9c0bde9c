-- The options that are asked for, or why there are none.
use Rattle.dsr_command.proofs.Common.{◌≡◌, ◌∙◌, ℕ, List, Some, IfOk, ap, refl, sym, subst}
use Rattle.std.specs.Prelude.{Bool, IfErr, MatchResult, Option, Result, Ok, Err}
use Rattle.dsr_command.proofs.LayoutBytes.{layout_all, taken_all}
use Rattle.dsr_command.specs.declared.command.Asked.{Asked}
use Rattle.dsr_command.specs.declared.identity.FileIdentity.{FileIdentity}
use Rattle.dsr_command.specs.declared.layout_file.LayoutReadError.{LayoutReadError}
use Rattle.dsr_command.specs.declared.layout_file.LayoutReadError.TheVariants.{CannotOpen, Read, Bad, Memory}
use Rattle.dsr_command.specs.declared.layout_file.RunOptions.{RunOptions}
use Rattle.dsr_command.specs.declared.sealing.Sealing.{Sealing}
use Rattle.dsr_command.specs.LayoutFile.{AreAsked, AreHad, IsLayoutAnswer, IsLayoutAsked, IsLayoutRefused, layout_bytes, layout_file, sealing_for, sealing_of}
use Rattle.dsr_command.specs.World.{Disk, Opens}
use Rattle.dsr_io.specs.meaning.Told.{Told}
use Rattle.dsr_records.specs.meaning.Records.{LayoutTable}

-- the layout's file gave none
pub layout_fault : {R : Type 0} (told : R → Told) (file : R → Option FileIdentity) (d : Disk) (named : Option (List ℕ)) (name : List ℕ) (seal : Bool)
    (before after : R) (error : LayoutReadError) → named ≡ Some name → Opens told file d name (Ok before)
    → IsLayoutAnswer seal (told before) (told after) (Err error) → IsLayoutRefused told d named error
layout_fault told file d named name seal before after CannotOpen is opened h = absurd h
layout_fault told file d named name seal before after Read is opened h = (name, is, after, h)
layout_fault told file d named name seal before after (Bad e) is opened h =
    (name, is, opened.0, opened.1, sym (layout_all (told before).remaining (told after).remaining opened.0 h.0 opened.2.fresh.remaining h.1) ∙ h.2)
layout_fault told file d named name seal before after Memory is opened h = tt

-- it gave this one
pub layout_given : {R : Type 0} (told : R → Told) (file : R → Option FileIdentity) (d : Disk) (named : Option (List ℕ)) (name : List ℕ) (seal : Bool)
    (before after : R) (had : LayoutTable × Option Sealing) → named ≡ Some name → Opens told file d name (Ok before)
    → IsLayoutAnswer seal (told before) (told after) (Ok had) → IsLayoutAsked d named had.0
layout_given told file d named name seal before after had is opened h =
    subst (λ n. IsLayoutAsked d n had.0) (sym is)
    (opened.0, opened.1, sym (layout_all (told before).remaining (told after).remaining opened.0 h.0 opened.2.fresh.remaining h.1) ∙ h.2)

-- and a seal over its bytes, if one is asked for
pub seal_given : {R : Type 0} (told : R → Told) (file : R → Option FileIdentity) (d : Disk) (named : Option (List ℕ)) (name : List ℕ) (seal : Bool)
    (before after : R) (had : LayoutTable × Option Sealing) → named ≡ Some name → Opens told file d name (Ok before)
    → IsLayoutAnswer seal (told before) (told after) (Ok had) → had.1 ≡ sealing_of seal (layout_bytes d named)
seal_given told file d named name seal before after had is opened h =
    let all = taken_all (told before).remaining (told after).remaining opened.0 h.0 opened.2.fresh.remaining h.1.consumed h.3 in
    h.4 ∙ (ap (λ b. sealing_of seal (Some b)) all ∙ (ap (sealing_of seal) (sym opened.1) ∙ ap (λ n. sealing_of seal (layout_bytes d n)) (sym is)))

-- with these options, or without memory
pub options_had : {R P : Type 0} (told : R → Told) (d : Disk) (asked : Asked) (layout : LayoutTable) (file : Option FileIdentity) (seal : Option Sealing)
    (result : Result (RunOptions P) LayoutReadError) → IsLayoutAsked d asked.layout layout → file ≡ layout_file d asked.layout
    → seal ≡ sealing_for d asked
    → IfOk result (λ o. o.options.value ≡ record { capacity = asked.capacity; max_reads = asked.max_reads; layout = layout })
    → IfOk result (λ o. (o.layout ≡ file) × (o.seal ≡ seal)) → IfErr result (λ e. e ≡ Memory)
    → MatchResult result (AreHad d asked) (IsLayoutRefused told d asked.layout)
options_had told d asked layout file seal (Ok o) given is sealed options had memory =
    record {
      options = subst (AreAsked d asked) (sym options) (record { capacity = refl; reads = refl; layout = given });
      file = had.0 ∙ is;
      seal = had.1 ∙ sealed;
    }
options_had told d asked layout file seal (Err e) given is sealed options had memory = subst (IsLayoutRefused told d asked.layout) (sym memory) tt
