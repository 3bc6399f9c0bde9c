-- The limits of a report and of its numbers, and sums of integers.
use Rattle.std.specs.Prelude.{ℕ, ℤ, pos, ◌+ℤ◌, List, [], ◌∷◌}

-- 100 percent, in millionths
abbrev pub whole_share : ℕ
whole_share = 1000000

-- the sum of f over the items
abbrev pub int_sum_by : {X : Type 0} → (X → ℤ) → List X → ℤ
int_sum_by f [] = pos 0
int_sum_by f (x ∷ xs) = f x +ℤ int_sum_by f xs
