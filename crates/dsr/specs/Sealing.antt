-- What the stages of a seal leave.
use Rattle.std.specs.Prelude.{◌≡◌, ℕ, ◌+◌, ◌<◌, ◌≤◌, ◌^◌, List, [], ◌∷◌, length, take, Option, Result, Ok, Err}
use Rattle.dsr_io.specs.meaning.Written.{Written, IsFlushed, IsCut}
use Rattle.dsr_intake.specs.declared.errors.RunError.{RunError}
use Rattle.dsr_intake.specs.declared.errors.RunError.TheVariants as run
use Rattle.dsr_statement.specs.declared.verdict.Status.{Status}
use Rattle.dsr_statement.specs.meaning.Digests.{Digest}
use Rattle.dsr_statement.specs.meaning.Seals.{seal_lines}
use Rattle.dsr_statement.specs.meaning.Statement.{text_of}

-- each source keeps the digest of the text at its place, which is short enough to have one
abbrev pub HoldTexts : {S : Type 0} → (S → List ℕ → Type 0) → List S → List (List ℕ) → Type 0
HoldTexts holds [] [] = Unit {0}
HoldTexts holds (s ∷ ss) (t ∷ ts) = holds s t × (length t < 2 ^ 61) × HoldTexts holds ss ts
HoldTexts holds _ _ = ⊥

-- the whole seal was written and flushed; or only its first n bytes were written, and the outlet failed
abbrev pub IsEnded : Option Digest → List Digest → ℕ → Status → Written → Written → Result Status RunError → Type 0
IsEnded layout inputs lines status before after (Ok answer) =
    (answer ≡ status) × IsFlushed (text_of (seal_lines layout inputs lines status)) before after
IsEnded layout inputs lines status before after (Err error) =
    (n : ℕ) × (error ≡ run.Write (before.taken + n)) × (n ≤ length (text_of (seal_lines layout inputs lines status)))
    × IsCut (take n (text_of (seal_lines layout inputs lines status))) before after
