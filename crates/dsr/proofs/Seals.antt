-- A run with a seal: from what its stages leave to what it wrote.
use Rattle.std.proofs.Common.{◌≡◌, ◌∙◌, ◌+◌, ◌-◌, ◌≤◌, ◌⊎◌, ℕ, List, [], ◌++◌, All, ap, arith, inl, inr, length, length-append, map, refl, subst, sym, take}
use Rattle.std.specs.Prelude.{Option, None, Some, Result, Ok, Err, IfErr, MatchOption}
use Rattle.std.proofs.KnownBytes.{Keeps-trans}
use Rattle.std.proofs.lemmas.List.{drop_at, length-map}
use Rattle.std.specs.Io.KnownBytes.{Appends}
use Rattle.dsr_command.specs.declared.sealing.Sealing.{Sealing}
use Rattle.dsr_file.specs.meaning.Runs.{FileText}
use Rattle.dsr_io.specs.meaning.Told.{Told}
use Rattle.dsr_io.specs.meaning.Written.{Written, IsFlushed, IsCut}
use Rattle.dsr_intake.specs.declared.errors.IntakeError.{IntakeError}
use Rattle.dsr_intake.specs.declared.errors.RunError.{RunError}
use Rattle.dsr_intake.specs.declared.errors.RunError.TheVariants as run
use Rattle.dsr_intake.specs.declared.options.Options.{Options}
use Rattle.dsr_intake.specs.meaning.Outcomes.{IsLateRun, IsReported, IsUntouched, IsUnwritten}
use Rattle.dsr_intake.specs.meaning.Texts.{HoldEach, refusal_of, report_of_texts}
use Rattle.dsr_seal.proofs.Inside.{cut_inside, flushed_inside}
use Rattle.dsr_seal.specs.meaning.Counts.{line_feeds}
use Rattle.dsr_seal.specs.layer.Counts.{IsCounted, IsInside, last}
use Rattle.dsr_seal.specs.meaning.Digests.{digest_of}
use Rattle.dsr_statement.specs.declared.verdict.Status.{Status}
use Rattle.dsr_statement.specs.meaning.Digests.{Digest}
use Rattle.dsr_statement.specs.meaning.Seals.{seal_lines}
use Rattle.dsr_statement.specs.meaning.Statement.{statement_of, text_of}
use Rattle.dsr.proofs.Digests.{held_texts}
use Rattle.dsr.specs.Sealing.{HoldTexts, IsEnded}
use Rattle.dsr.specs.Serving.{GaveBytes, IsRefusedFor, IsSealCut, IsSealed, IsSealedAnswer, IsStated, seal_of}

-- what an outlet holds after it took bytes
known_after : (new : Option (List ℕ)) (held bytes : List ℕ) → Appends (Some held) new bytes → new ≡ Some (held ++ bytes)
known_after None held bytes h = absurd h
known_after (Some all) held bytes h = ap Some h

last_appended : (held bytes : List ℕ) → last (length bytes) (held ++ bytes) ≡ bytes
last_appended held bytes =
    let whole = length-append held bytes in
    drop_at held bytes (length (held ++ bytes) - length bytes) (omega (arith, whole))

-- the lines that were counted are those of the statement
lines_are : (lines : ℕ) (before stated : Written) (statement held : List ℕ) → before.taken ≡ 0 → before.contents ≡ Some held
    → IsFlushed statement before stated → IsCounted lines stated → lines ≡ line_feeds statement
lines_are lines before stated statement held none is flushed counted =
    let known = known_after stated.contents held statement (subst (λ b. Appends b stated.contents statement) is flushed.added) in
    let grown = flushed.counted.0 in
    let taken : stated.taken ≡ length statement = omega (arith, grown, none) in
    counted.exact (held ++ statement) known
    ∙ (ap (λ n. line_feeds (last n (held ++ statement))) taken ∙ ap line_feeds (last_appended held statement))

-- a run's statement and the seal behind it
pub sealed_by : {R : Type 0} (told : R → Told) (holds : R → List ℕ → Type 0) (o : Options) (seal : Sealing) (n : ℕ) (ss ls : List R)
    (digests : List Digest) (before stated after : Written) (texts : List FileText) (status : Status) (lines : ℕ) (answer : Result Status RunError)
    (Q : IntakeError → Type 0) → before.taken ≡ 0 → IsReported told o ss ls before stated texts status
    → MatchOption (refusal_of n o) (IfErr {T = Status} (Ok status) IsLateRun) (λ e. (Ok status ≡ Err (run.Intake e)) × Q e)
    → All (λ s. holds s []) ss → HoldEach told holds ss ls
    → ((given : List (List ℕ)) → HoldTexts holds ls given → digests ≡ map digest_of given)
    → IsCounted lines stated → IsEnded seal.layout digests lines status stated after answer → IsSealed told o seal ss ls before after answer
sealed_by told holds o seal n ss ls digests before stated after texts status lines (Ok a) Q none reported refused nothing held are counted ended =
    let statement = statement_of (report_of_texts o.layout texts) in
    subst (λ s. IsStated told o seal ss ls before s (λ st se w. IsFlushed se w after)) (sym ended.0)
    (record {
      texts = texts;
      stated = stated;
      reported = reported;
      sealed = λ there given is gave.
          subst (λ ds. IsFlushed (text_of (seal_lines seal.layout ds (line_feeds statement) status)) stated after)
          (are given (held_texts told holds o n ss ls texts given status Q refused nothing held reported.given gave))
          (subst (λ k. IsFlushed (text_of (seal_lines seal.layout digests k status)) stated after)
          (lines_are lines before stated statement there none is reported.written counted) ended.1);
    })
sealed_by told holds o seal n ss ls digests before stated after texts status lines (Err e) Q none reported refused nothing held are counted ended =
    let statement = statement_of (report_of_texts o.layout texts) in
    let k = ended.0 in
    let grown = reported.written.counted.0 in
    let taken : stated.taken ≡ length statement = omega (arith, grown, none) in
    inr (
      status,
      stated.taken + k,
      ended.1,
      record {
        texts = texts;
        stated = stated;
        reported = reported;
        sealed = λ there given is gave.
            let are_digests = are given (held_texts told holds o n ss ls texts given status Q refused nothing held reported.given gave) in
            let are_lines = lines_are lines before stated statement there none is reported.written counted in
            let same : text_of (seal_lines seal.layout digests lines status) ≡ seal_of seal given statement status =
            ap (λ ds. text_of (seal_lines seal.layout ds lines status)) are_digests
            ∙ ap (λ m. text_of (seal_lines seal.layout (map digest_of given) m status)) are_lines in
            let most : k ≤ length (seal_of seal given statement status) = subst (λ x. k ≤ length x) same ended.2 in
            let all = length-append statement (seal_of seal given statement status) in
            let rest : k ≡ stated.taken + k - length statement = omega (arith, taken) in (
              omega (arith, taken),
              omega (arith, taken, most, all),
              subst (λ m. IsCut (take m (seal_of seal given statement status)) stated after) rest
                  (subst (λ x. IsCut (take k x) stated after) same ended.3),
            );
      },
    )

-- it is not refused, since the run was not
pub unrefused_by : (n : Option IntakeError) (status : Status) (answer : Result Status RunError) (Q P : IntakeError → Type 0) → IfErr answer IsLateRun
    → MatchOption n (IfErr {T = Status} (Ok status) IsLateRun) (λ e. (Ok status ≡ Err (run.Intake e)) × Q e)
    → MatchOption n (IfErr answer IsLateRun) P
unrefused_by None status answer Q P late h = late
unrefused_by (Some e) status answer Q P late h = absurd cc

late_end : (layout : Option Digest) (digests : List Digest) (lines : ℕ) (status : Status) (before after : Written) (answer : Result Status RunError)
    → IsEnded layout digests lines status before after answer → IfErr answer IsLateRun
late_end layout digests lines status before after (Ok a) h = tt
late_end layout digests lines status before after (Err e) h = subst IsLateRun (sym h.1) tt

-- the whole answer
pub answered : {R : Type 0} (told : R → Told) (holds : R → List ℕ → Type 0) (o : Options) (seal : Sealing) (n : ℕ) (ss ls : List R)
    (digests : List Digest) (before stated after : Written) (texts : List FileText) (status : Status) (lines : ℕ) (answer : Result Status RunError)
    (Q : IntakeError → Type 0) → n ≡ length ss → before.taken ≡ 0 → IsReported told o ss ls before stated texts status
    → MatchOption (refusal_of n o) (IfErr {T = Status} (Ok status) IsLateRun)
    (λ e. (Ok status ≡ Err (run.Intake e)) × Q e)
    → All (λ s. holds s []) ss → HoldEach told holds ss ls
    → ((given : List (List ℕ)) → HoldTexts holds ls given → digests ≡ map digest_of given)
    → IsCounted lines stated → IsEnded seal.layout digests lines status stated after answer → IsSealedAnswer told o seal ss ls before after answer
answered told holds o seal n ss ls digests before stated after texts status lines answer Q len none reported refused nothing held are counted ended =
    record {
      sealed = sealed_by told holds o seal n ss ls digests before stated after texts status lines answer Q none reported refused nothing held are
          counted ended;
      refused = subst (λ k. MatchOption (refusal_of k o) (IfErr answer IsLateRun) (IsRefusedFor answer)) len
          (unrefused_by (refusal_of n o) status answer Q (IsRefusedFor answer) (late_end seal.layout digests lines status stated after answer ended) refused);
    }

-- from the counting outlet to the one inside
untouched_out : (before counted out : Written) → IsInside counted out → IsUntouched before counted → IsUntouched before out
untouched_out before counted out inside h =
    record {
      kept = Keeps-trans before.contents counted.contents out.contents h.kept inside.held;
      taken = inside.taken ∙ h.taken;
      failed = inside.failed ∙ h.failed;
      flushes = inside.flushes ∙ h.flushes;
      unflushed = inside.unflushed ∙ h.unflushed;
    }

unwritten_out : {R : Type 0} (told : R → Told) (o : Options) (ss ls : List R) (before counted out : Written) (e : RunError) → IsInside counted out
    → IsUnwritten told o ss ls before counted e → IsUnwritten told o ss ls before out e
unwritten_out told o ss ls before counted out (run.Intake e) inside h = untouched_out before counted out inside h
unwritten_out told o ss ls before counted out run.Memory inside h = (h.0, h.1, untouched_out before counted out inside h.2)
unwritten_out told o ss ls before counted out (run.Write n) inside h = (h.0, h.1, h.2, cut_inside _ before counted out inside h.3)

sealed_out : {R : Type 0} (told : R → Told) (o : Options) (seal : Sealing) (ss ls : List R) (before counted out : Written)
    (answer : Result Status RunError) → IsInside counted out → IsSealed told o seal ss ls before counted answer
    → IsSealed told o seal ss ls before out answer
sealed_out told o seal ss ls before counted out (Ok s) inside h =
    record {
      texts = h.texts;
      stated = h.stated;
      reported = h.reported;
      sealed = λ held given is gave. flushed_inside _ h.stated counted out inside (h.sealed held given is gave);
    }
sealed_out told o seal ss ls before counted out (Err e) inside (inl h) = inl (unwritten_out told o ss ls before counted out e inside h)
sealed_out told o seal ss ls before counted out (Err e) inside (inr h) =
    let st = h.3 in
    inr (
      h.0,
      h.1,
      h.2,
      record {
        texts = st.texts;
        stated = st.stated;
        reported = st.reported;
        sealed = λ held given is gave. let cut = st.sealed held given is gave in (cut.0, cut.1, cut_inside _ st.stated counted out inside cut.2);
      },
    )

pub answer_out : {R : Type 0} (told : R → Told) (o : Options) (seal : Sealing) (ss ls : List R) (before counted out : Written)
    (answer : Result Status RunError) → IsInside counted out → IsSealedAnswer told o seal ss ls before counted answer
    → IsSealedAnswer told o seal ss ls before out answer
answer_out told o seal ss ls before counted out answer inside h =
    record { sealed = sealed_out told o seal ss ls before counted out answer inside h.sealed; refused = h.refused }
