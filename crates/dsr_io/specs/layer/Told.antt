-- What one read adds to what a source tells, and to what it keeps.
use Rattle.std.specs.Prelude.{ℕ, List, Result, ◌≡◌, ◌+◌, ◌++◌, min, take, MatchResult}
use Rattle.dsr_io.specs.declared.read_count.ReadCount.{ReadCount}
use Rattle.dsr_io.specs.meaning.Told.{Answered}

-- one read was answered, which gave this many bytes
abbrev pub AddsRead : ReadCount → ReadCount → ℕ → Type 0
AddsRead old new bytes = Answered old new 1 (min 1 bytes) × (new.last ≡ bytes)

-- what it keeps of the bytes given before is kept of them and of those that this read gave
abbrev pub HoldsRead : {S E : Type 0} → (S → List ℕ → Type 0) → S → S → Result ℕ E → List ℕ → Type 0
HoldsRead holds before after result piece =
    (given : List ℕ) → holds before given → MatchResult result (λ n. holds after (given ++ take n piece)) (λ _. holds after given)
