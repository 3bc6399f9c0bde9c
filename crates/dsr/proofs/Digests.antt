-- The digests of what sources gave.
use Rattle.std.proofs.Common.{◌≡◌, ◌∙◌, ◌+◌, ◌*◌, ◌<◌, ◌≤◌, ◌^◌, ◌⊎◌, ℕ, List, [], ◌∷◌, ◌++◌, All, ap, arith, suc, inl, inr, length, length-append, map, refl, subst, sym}
use Rattle.std.specs.Prelude.{Bool, Option, None, Some, Ok, Err, IfErr, MatchOption, ◌==◌, ◌||◌, if◌then◌else◌, nat_lt, true, false}
use Rattle.std.specs.Io.KnownBytes.{Consumes}
use Rattle.std.proofs.lemmas.Bool.{ltb-false, or_parts}
use Rattle.std.proofs.lemmas.List.{append-nil, append_assoc, map-append}
use Rattle.std.proofs.lemmas.List.Elements.{All-head, All-tail}
use Rattle.dsr_events.specs.declared.fault.Ending.{Ending}
use Rattle.dsr_events.specs.declared.fault.Ending.TheVariants.{Whole, Read, Reads}
use Rattle.dsr_records.specs.meaning.Records.{LayoutTable}
use Rattle.dsr_file.specs.meaning.Runs.{FileText}
use Rattle.dsr_file.specs.meaning.Sources.{EndsAs, Gave, GaveText, Stopped}
use Rattle.dsr_io.specs.meaning.Told.{HoldsGiven, Told}
use Rattle.dsr_intake.specs.declared.errors.IntakeError.{IntakeError}
use Rattle.dsr_intake.specs.declared.errors.IntakeError.TheVariants as intake
use Rattle.dsr_intake.specs.declared.errors.RunError.TheVariants as run
use Rattle.dsr_intake.specs.declared.options.Options.{Options}
use Rattle.dsr_intake.specs.meaning.Outcomes.{IsLateRun}
use Rattle.dsr_intake.specs.meaning.Texts.{GaveEach, HoldEach, refusal_of}
use Rattle.dsr_seal.specs.declared.digesting.Digesting.{Digesting}
use Rattle.dsr_seal.specs.meaning.Digests.{digest_of}
use Rattle.sha2.specs.Hashers.{Holds256}
use Rattle.dsr_statement.specs.declared.verdict.Status.{Status}
use Rattle.dsr_statement.specs.meaning.Digests.{Digest}
use Rattle.dsr.specs.Sealing.{HoldTexts}
use Rattle.dsr.specs.Serving.{GaveBytes}

-- what a source that makes digests keeps: the digest of these bytes
abbrev pub keeps_digest : {R : Type 0} → Digesting R → List ℕ → Type 0
keeps_digest s given = Holds256 s.hasher given × (length given < 2 ^ 61 → s.bytes ≡ length given)

-- one more source was wrapped
pub wrapped_more : {X Y : Type 0} (f : Y → X) (made : List Y) (y : Y) (x : X) (rest all : List X) → map f made ++ x ∷ rest ≡ all → f y ≡ x
    → map f (made ++ y ∷ []) ++ rest ≡ all
wrapped_more f made y x rest all was is =
    ap (λ m. m ++ rest) (map-append f made (y ∷ []))
    ∙ (append_assoc (map f made) (f y ∷ []) rest ∙ (ap (λ z. map f made ++ z ∷ rest) is ∙ was))

-- the digests made so far and those of the sources left are those of the texts that all of them keep
abbrev pub Digested : {S : Type 0} → (S → List ℕ → Type 0) → List S → List S → List Digest → Type 0
Digested holds all left digests = (texts : List (List ℕ)) → HoldTexts holds all texts
    → (rest : List (List ℕ)) × HoldTexts holds left rest × (digests ++ map digest_of rest ≡ map digest_of texts)

pub digested_none : {S : Type 0} (holds : S → List ℕ → Type 0) (all : List S) → Digested holds all all []
digested_none holds all texts h = (texts, h, refl)

one_more : {S : Type 0} (holds : S → List ℕ → Type 0) (s : S) (ss : List S) (d : Digest) (digests all : List Digest)
    → ((t : List ℕ) → holds s t → length t < 2 ^ 61 → d ≡ digest_of t)
    → (rest : List (List ℕ)) → HoldTexts holds (s ∷ ss) rest → digests ++ map digest_of rest ≡ all
    → (more : List (List ℕ)) × HoldTexts holds ss more × ((digests ++ d ∷ []) ++ map digest_of more ≡ all)
one_more holds s ss d digests all is [] h same = absurd h
one_more holds s ss d digests all is (t ∷ more) h same = (
  more,
  h.2,
  append_assoc digests (d ∷ []) (map digest_of more)
      ∙ (ap (λ x. digests ++ x ∷ map digest_of more) (is t h.0 h.1) ∙ same),
)

pub digested_more : {S : Type 0} (holds : S → List ℕ → Type 0) (all : List S) (s : S) (ss : List S) (d : Digest) (digests : List Digest)
    → Digested holds all (s ∷ ss) digests → ((t : List ℕ) → holds s t → length t < 2 ^ 61 → d ≡ digest_of t)
    → Digested holds all ss (digests ++ d ∷ [])
digested_more holds all s ss d digests so is texts h =
    let had = so texts h in one_more holds s ss d digests (map digest_of texts) is had.0 had.1 had.2

none_left : {S : Type 0} (holds : S → List ℕ → Type 0) (digests all : List Digest) (rest : List (List ℕ)) → HoldTexts holds [] rest
    → digests ++ map digest_of rest ≡ all → digests ≡ all
none_left holds digests all [] h same = sym (append-nil digests) ∙ same
none_left holds digests all (t ∷ ts) h same = absurd h

pub digested_all : {S : Type 0} (holds : S → List ℕ → Type 0) (all : List S) (digests : List Digest) → Digested holds all [] digests
    → (texts : List (List ℕ)) → HoldTexts holds all texts → digests ≡ map digest_of texts
digested_all holds all digests so texts h = let had = so texts h in none_left holds digests (map digest_of texts) had.0 had.1 had.2

-- the limit on reads is at most the largest one, where nothing is refused
last_test : (a b c d : Bool) (w x y z : IntakeError)
    → (if a then Some w else (if b then Some x else (if c then Some y else (if d then Some z else None)))) ≡ None → d ≡ false
last_test true b c d w x y z is = absurd cc
last_test false true c d w x y z is = absurd cc
last_test false false true d w x y z is = absurd cc
last_test false false false true w x y z is = absurd cc
last_test false false false false w x y z is = refl

few_reads : (n : ℕ) (o : Options) → refusal_of n o ≡ None → o.max_reads ≤ 16777216
few_reads n o is =
    let tests = last_test (n == 0) (nat_lt 64 n) ((o.capacity == 0) || nat_lt 1024 o.capacity) ((o.max_reads == 0) || nat_lt 16777216 o.max_reads)
    intake.NoFiles intake.TooManyFiles intake.Capacity intake.Reads is in
    ltb-false 16777216 o.max_reads (or_parts (o.max_reads == 0) (nat_lt 16777216 o.max_reads) tests).1

unrefused : (n : Option IntakeError) (status : Status) (Q : IntakeError → Type 0)
    → MatchOption n (IfErr {T = Status} (Ok status) IsLateRun) (λ e. (Ok status ≡ Err (run.Intake e)) × Q e) → n ≡ None
unrefused None status Q h = refl
unrefused (Some e) status Q h = absurd cc

-- a source gave at most 4,096 bytes a read
few_filled : (limit : ℕ) (after : Told) (reads filled : ℕ) (ending : Ending) → EndsAs limit after reads filled ending → reads ≤ limit → filled ≤ limit
few_filled limit after reads filled Whole h le = omega (arith, h, le)
few_filled limit after reads filled Read h le = omega (arith, h, le)
few_filled limit after reads filled Reads h le = omega (arith, h, le)

same_length : (limit : ℕ) (before after : Told) (given bytes rest : List ℕ) → Gave limit before after given → before.remaining ≡ Some (bytes ++ rest)
    → after.remaining ≡ Some rest → length bytes ≡ length given
same_length limit before after given bytes rest gave was is =
    let consumed : bytes ++ rest ≡ given ++ rest = subst (λ a. Consumes (Some (bytes ++ rest)) a given) is
    (subst (λ b. Consumes b after.remaining given) was gave.consumed) in
    let lengths : length bytes + length rest ≡ length given + length rest = sym (length-append bytes rest) ∙ (ap length consumed ∙ length-append given rest) in
    omega (arith, lengths)

few_bytes : (layout : LayoutTable) (limit : ℕ) (before after : Told) (text : FileText) (bytes rest : List ℕ) → GaveText layout limit before after text
    → before.remaining ≡ Some (bytes ++ rest) → after.remaining ≡ Some rest → length bytes ≤ 4096 * limit
few_bytes layout limit before after text bytes rest (inl h) was is =
    let same = same_length limit before after text.bytes bytes rest h.0 was is in
    let filled = few_filled limit after h.0.reads h.0.filled text.ending h.1 h.0.limited in
    let most = h.0.most in
    omega (arith, same, filled, most)
few_bytes layout limit before after text bytes rest (inr h) was is =
    let gave = h.1.0 in
    let same = same_length limit before after h.0 bytes rest gave was is in
    let all = h.1.1 in
    let most = gave.most in
    let limited = gave.limited in
    omega (arith, same, all, most, limited)

-- as many sources were handed back
pub same_count : {S : Type 0} (told : S → Told) (holds : S → List ℕ → Type 0) (ss ls : List S) → HoldEach told holds ss ls → length ss ≡ length ls
same_count told holds [] [] h = refl
same_count told holds [] (l ∷ ls) h = absurd h
same_count told holds (s ∷ ss) [] h = absurd h
same_count told holds (s ∷ ss) (l ∷ ls) h = ap suc (same_count told holds ss ls h.1)

-- sources that kept nothing keep the digests of the bytes that they gave
hold_texts : {S : Type 0} (told : S → Told) (holds : S → List ℕ → Type 0) (o : Options) (ss ls : List S) (texts : List FileText) (given : List (List ℕ))
    → o.max_reads ≤ 16777216 → All (λ s. holds s []) ss → HoldEach told holds ss ls → GaveEach told o ss ls texts → GaveBytes told ss ls given
    → HoldTexts holds ls given
hold_texts told holds o [] [] texts [] few none held gave bytes = tt
hold_texts told holds o [] [] texts (b ∷ bs) few none held gave bytes = absurd bytes
hold_texts told holds o [] (l ∷ ls) texts given few none held gave bytes = absurd held
hold_texts told holds o (s ∷ ss) [] texts given few none held gave bytes = absurd held
hold_texts told holds o (s ∷ ss) (l ∷ ls) [] given few none held gave bytes = absurd gave
hold_texts told holds o (s ∷ ss) (l ∷ ls) (t ∷ ts) [] few none held gave bytes = absurd bytes
hold_texts told holds o (s ∷ ss) (l ∷ ls) (t ∷ ts) (b ∷ bs) few none held gave bytes =
    let most = few_bytes o.layout o.max_reads (told s) (told l) t b bytes.0.0 gave.0 bytes.0.1 bytes.0.2 in (
      held.0 [] b bytes.0.0 bytes.0.1 bytes.0.2 (All-head (λ s. holds s []) s ss none),
      omega (arith, most, few),
      hold_texts told holds o ss ls ts bs few (All-tail (λ s. holds s []) s ss none) held.1 gave.1 bytes.1,
    )

-- the same after a run
pub held_texts : {S : Type 0} (told : S → Told) (holds : S → List ℕ → Type 0) (o : Options) (n : ℕ) (ss ls : List S) (texts : List FileText)
    (given : List (List ℕ)) (status : Status) (Q : IntakeError → Type 0)
    → MatchOption (refusal_of n o) (IfErr {T = Status} (Ok status) IsLateRun) (λ e. (Ok status ≡ Err (run.Intake e)) × Q e)
    → All (λ s. holds s []) ss → HoldEach told holds ss ls → GaveEach told o ss ls texts → GaveBytes told ss ls given → HoldTexts holds ls given
held_texts told holds o n ss ls texts given status Q refused =
    hold_texts told holds o ss ls texts given (few_reads n o (unrefused (refusal_of n o) status Q refused))
