-- From what a run over watched sources says to what it says of the sources inside.
use Rattle.std.proofs.Common.{◌≡◌, ◌⊎◌, subst, sym, refl, inl, inr, ℕ, List, [], ◌∷◌, All, length, map}
use Rattle.std.specs.Prelude.{Option, Some, None, Result, Ok, Err, IfOk, IfErr, MatchOption}
use Rattle.std.proofs.lemmas.List.{length-map}
use Rattle.std.proofs.lemmas.List.Elements.{All-nil, All-cons, All-head, All-tail}
use Rattle.std.proofs.lemmas.Result.{IfOk-weaker, IfErr-weaker}
use Rattle.std.specs.Io.KnownBytes.{Keeps}
use Rattle.dsr_file.specs.meaning.Runs.{FileText}
use Rattle.dsr_io.specs.meaning.Told.{Told}
use Rattle.dsr_io.specs.meaning.Written.{Written}
use Rattle.dsr_intake.specs.declared.errors.IntakeError.{IntakeError}
use Rattle.dsr_intake.specs.declared.errors.IntakeError.TheVariants as intake
use Rattle.dsr_intake.specs.declared.errors.RunError.{RunError}
use Rattle.dsr_intake.specs.declared.errors.RunError.TheVariants as error
use Rattle.dsr_intake.specs.declared.options.Options.{Options}
use Rattle.dsr_intake.specs.meaning.Outcomes.{IsLateRun, IsReported, IsUntouched, IsUnwritten}
use Rattle.dsr_intake.specs.meaning.Texts.{GaveEach, refusal_of}
use Rattle.dsr_statement.specs.declared.verdict.Status.{Status}
use Rattle.dsr_command.specs.declared.sealing.Sealing.{Sealing}
use Rattle.dsr.specs.Serving.{GaveBytes, IsAnswer, IsAnswerFor, IsRefusedFor, IsSealed, IsStated}

-- what holds of each source holds of its watched source
pub of_each : {X Y : Type 0} (P : X → Type 0) (f : Y → X) (ys : List Y) → All P (map f ys) → All (λ y. P (f y)) ys
of_each P f [] h = All-nil (λ y. P (f y))
of_each P f (y ∷ ys) h = All-cons (λ y. P (f y)) y ys (All-head P (f y) (map f ys) h) (of_each P f ys (All-tail P (f y) (map f ys) h))

-- what watched sources gave is what the sources inside gave
gave_inside : {X Y : Type 0} (told : X → Told) (f : Y → X) (o : Options) (ys zs : List Y) (ts : List FileText)
    → GaveEach (λ y. told (f y)) o ys zs ts → GaveEach told o (map f ys) (map f zs) ts
gave_inside told f o [] [] [] h = h
gave_inside told f o [] [] (t ∷ ts) h = h
gave_inside told f o [] (z ∷ zs) ts h = h
gave_inside told f o (y ∷ ys) [] ts h = h
gave_inside told f o (y ∷ ys) (z ∷ zs) [] h = h
gave_inside told f o (y ∷ ys) (z ∷ zs) (t ∷ ts) h = (h.0, gave_inside told f o ys zs ts h.1)

reported_inside : {X Y : Type 0} (told : X → Told) (f : Y → X) (o : Options) (ys zs : List Y) (before after : Written) (ts : List FileText) (s : Status)
    → IsReported (λ y. told (f y)) o ys zs before after ts s → IsReported told o (map f ys) (map f zs) before after ts s
reported_inside told f o ys zs before after ts s h =
    record { given = gave_inside told f o ys zs ts h.given; written = h.written; sound = h.sound; status_is = h.status_is }

unwritten_inside : {X Y : Type 0} (told : X → Told) (f : Y → X) (o : Options) (ys zs : List Y) (before after : Written) (e : RunError)
    → IsUnwritten (λ y. told (f y)) o ys zs before after e → IsUnwritten told o (map f ys) (map f zs) before after e
unwritten_inside told f o ys zs before after (error.Intake e) h = h
unwritten_inside told f o ys zs before after error.Memory h = (h.0, gave_inside told f o ys zs h.0 h.1, h.2)
unwritten_inside told f o ys zs before after (error.Write n) h = (h.0, gave_inside told f o ys zs h.0 h.1, h.2, h.3)

answer_inside : {X Y : Type 0} (told : X → Told) (f : Y → X) (o : Options) (ys zs : List Y) (before after : Written) (answer : Result Status RunError)
    → IsAnswer (λ y. told (f y)) o ys zs before after answer → IsAnswer told o (map f ys) (map f zs) before after answer
answer_inside told f o ys zs before after answer h =
    record {
      reported = IfOk-weaker answer _ _ (λ s is. (is.0, reported_inside told f o ys zs before after is.0 s is.1)) h.reported;
      unwritten = IfErr-weaker answer _ _ (λ e is. unwritten_inside told f o ys zs before after e is) h.unwritten;
      refused = subst (λ n. MatchOption (refusal_of n o) (IfErr answer IsLateRun) (IsRefusedFor answer)) (sym (length-map ys f)) h.refused;
    }

-- what the sources inside gave is what the watched sources gave
bytes_outside : {X Y : Type 0} (told : X → Told) (f : Y → X) (ys zs : List Y) (bs : List (List ℕ))
    → GaveBytes told (map f ys) (map f zs) bs → GaveBytes (λ y. told (f y)) ys zs bs
bytes_outside told f [] [] [] h = h
bytes_outside told f [] [] (b ∷ bs) h = h
bytes_outside told f [] (z ∷ zs) bs h = h
bytes_outside told f (y ∷ ys) [] bs h = h
bytes_outside told f (y ∷ ys) (z ∷ zs) [] h = h
bytes_outside told f (y ∷ ys) (z ∷ zs) (b ∷ bs) h = (h.0, bytes_outside told f ys zs bs h.1)

stated_inside : {X Y : Type 0} (told : X → Told) (f : Y → X) (o : Options) (seal : Sealing) (ys zs : List Y) (before : Written) (s : Status)
    (Ends : List ℕ → List ℕ → Written → Type 0) → IsStated (λ y. told (f y)) o seal ys zs before s Ends
    → IsStated told o seal (map f ys) (map f zs) before s Ends
stated_inside told f o seal ys zs before s Ends h =
    record {
      texts = h.texts;
      stated = h.stated;
      reported = reported_inside told f o ys zs before h.stated h.texts s h.reported;
      sealed = λ held given is gave. h.sealed held given is (bytes_outside told f ys zs given gave);
    }

sealed_inside : {X Y : Type 0} (told : X → Told) (f : Y → X) (o : Options) (seal : Sealing) (ys zs : List Y) (before after : Written)
    (answer : Result Status RunError) → IsSealed (λ y. told (f y)) o seal ys zs before after answer
    → IsSealed told o seal (map f ys) (map f zs) before after answer
sealed_inside told f o seal ys zs before after (Ok s) h = stated_inside told f o seal ys zs before s _ h
sealed_inside told f o seal ys zs before after (Err e) (inl h) = inl (unwritten_inside told f o ys zs before after e h)
sealed_inside told f o seal ys zs before after (Err e) (inr h) = inr (h.0, h.1, h.2, stated_inside told f o seal ys zs before h.0 _ h.3)

answer_for_inside : {X Y : Type 0} (told : X → Told) (f : Y → X) (o : Options) (seal : Option Sealing) (ys zs : List Y) (before after : Written)
    (answer : Result Status RunError) → IsAnswerFor (λ y. told (f y)) o seal ys zs before after answer
    → IsAnswerFor told o seal (map f ys) (map f zs) before after answer
answer_for_inside told f o None ys zs before after answer h = answer_inside told f o ys zs before after answer h
answer_for_inside told f o (Some seal) ys zs before after answer h =
    record {
      sealed = sealed_inside told f o seal ys zs before after answer h.sealed;
      refused = subst (λ n. MatchOption (refusal_of n o) (IfErr answer IsLateRun) (IsRefusedFor answer)) (sym (length-map ys f)) h.refused;
    }

-- the answer of a run over watched sources is one over the sources inside
pub answer_within : {X Y : Type 0} (told : X → Told) (f : Y → X) (o : Options) (seal : Option Sealing) (sources : List X) (ys : List Y)
    (before after : Written) (answer : Result Status RunError) → map f ys ≡ sources
    → (left : List Y) × IsAnswerFor (λ y. told (f y)) o seal ys left before after answer
    → (left : List X) × IsAnswerFor told o seal sources left before after answer
answer_within told f o seal sources ys before after answer same h =
    (map f h.0, subst (λ xs. IsAnswerFor told o seal xs (map f h.0) before after answer) same (answer_for_inside told f o seal ys h.0 before after answer h.1))

-- a refusal by the rules of a run
pub refused_by : (n : Option IntakeError) (answer : Result Status RunError) (Q : IntakeError → Type 0)
    → MatchOption n (IfErr answer IsLateRun) (λ e. (answer ≡ Err (error.Intake e)) × Q e) → MatchOption n (IfErr answer IsLateRun) (IsRefusedFor answer)
refused_by None answer Q met = met
refused_by (Some e) answer Q met = inl met.0

no_memory_refused : (n : Option IntakeError) → MatchOption n (IfErr {T = Status} (Err (error.Intake intake.Memory)) IsLateRun)
    (IsRefusedFor (Err (error.Intake intake.Memory)))
no_memory_refused None = tt
no_memory_refused (Some e) = inr refl

kept : (o : Option (List ℕ)) → Keeps o o
kept None = tt
kept (Some xs) = refl

untouched : (w : Written) → IsUntouched w w
untouched w = record { kept = kept w.contents; taken = refl; failed = refl; flushes = refl; unflushed = refl }

-- memory was refused before a run began
pub without_memory : {X : Type 0} (told : X → Told) (o : Options) (seal : Option Sealing) (sources : List X) (out : Written)
    → IsAnswerFor told o seal sources sources out out (Err (error.Intake intake.Memory))
without_memory told o None sources out =
    record { reported = tt; unwritten = untouched out; refused = no_memory_refused (refusal_of (length sources) o) }
without_memory told o (Some seal) sources out =
    record { sealed = inl (untouched out); refused = no_memory_refused (refusal_of (length sources) o) }
