-- What the sources of statements gave, and the totals of it.
use Rattle.std.specs.Prelude.{◌≡◌, ◌⊎◌, ℕ, suc, ◌++◌, nat_lt, Bool, true, if◌then◌else◌, List, [], ◌∷◌, length, Ok, Err}
use Rattle.std.specs.Io.KnownBytes.{Consumes, IsAtEnd}
use Rattle.dsr_io.specs.meaning.Told.{Told}
use Rattle.dsr_statement.specs.meaning.Readings.{IsReadingOf}
use Rattle.dsr_sums.specs.declared.answer.TotalsError.{TotalsError}
use Rattle.dsr_sums.specs.declared.answer.TotalsError.TheVariants.{Refused, OutOfRange, Memory}
use Rattle.dsr_sums.specs.declared.reports.Role.{Role}
use Rattle.dsr_sums.specs.declared.reports.Role.TheVariants.{Given, Paid}
use Rattle.dsr_sums.specs.declared.rules.Rules.{Rules}
use Rattle.dsr_sums.specs.meaning.Answers.{StatementText, totals}

-- a text is read as the same whatever follows it: it has a fault
abbrev pub IsSettled : StatementText → Type 0
IsSettled text = (more : List ℕ) (failed : Bool) → IsReadingOf (text.bytes ++ more) failed text.read

-- a source gave a text: to its end, or until a read failed, or until it has a fault whatever follows
pub record Gave (before after : Told) (text : StatementText) : Type 0 where
  pub consumed : Consumes before.remaining after.remaining text.bytes
  pub failure : after.failed ≡ text.failed
  pub whole : IsAtEnd after.remaining ⊎ ((text.failed ≡ true) ⊎ IsSettled text)

-- the first sources, as many as are given, are of given statements, and the others of paid ones
abbrev pub role_of : ℕ → ℕ → Role
role_of given place = if nat_lt place given then Given else Paid

-- the first sources, from this place on, gave these texts, and the others were not read
abbrev pub GaveEach : {R : Type 0} → (R → Told) → ℕ → ℕ → List R → List R → List StatementText → Type 0
GaveEach told given place [] [] [] = Unit {0}
GaveEach told given place (r ∷ rs) (q ∷ qs) [] = (q ≡ r) × GaveEach told given (suc place) rs qs []
GaveEach told given place (r ∷ rs) (q ∷ qs) (t ∷ ts) =
    Gave (told r) (told q) t × (t.role ≡ role_of given place) × GaveEach told given (suc place) rs qs ts
GaveEach told given place _ _ _ = ⊥

-- all sources gave their texts, and this is the text of their totals
abbrev pub HasTotals : {R : Type 0} → (R → Told) → ℕ → Rules → List R → List R → List ℕ → Type 0
HasTotals told given rules before after text =
    (texts : List StatementText) × GaveEach told given 0 before after texts × (length texts ≡ length before) × (totals rules texts ≡ Ok text)

-- the sources gave these texts, and this is why they have no totals; only a refusal comes before all sources were read
abbrev pub HasNoTotals : {R : Type 0} → (R → Told) → ℕ → Rules → List R → List R → TotalsError → Type 0
HasNoTotals told given rules before after (Refused place line fault) =
    (texts : List StatementText) × GaveEach told given 0 before after texts × (totals rules texts ≡ Err (Refused place line fault))
HasNoTotals told given rules before after OutOfRange =
    (texts : List StatementText) × GaveEach told given 0 before after texts × (length texts ≡ length before) × (totals rules texts ≡ Err OutOfRange)
HasNoTotals told given rules before after Memory = Unit {0}
