-- Amounts cut at their points.
use Rattle.std.specs.Prelude.{◌≡◌, ℕ, List, ◌∷◌, ◌++◌, length}

-- no point of the text has ten bytes behind it
abbrev pub HasNoPoint : List ℕ → Type 0
HasNoPoint text = (whole decimals : List ℕ) → text ≡ whole ++ 46 ∷ decimals → ¬ (length decimals ≡ 10)
