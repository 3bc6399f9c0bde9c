-- What numbers, usages and amounts are read as.
use Rattle.std.specs.Prelude.{ℕ, ◌+◌, ◌*◌, ◌^◌, ◌==◌, nat_lt, Bool, false, if◌then◌else◌, List, [], ◌∷◌, length, Option, Some, None, ℤ, pos, neg_ℤ, option_map}
use Rattle.std.specs.List.{slice_split}
use Rattle.std.specs.Char.{is_ascii_digit}
use Rattle.dsr_cells.specs.meaning.Numbers.{digits_sum, digits_of}
use Rattle.dsr_cells.specs.meaning.Texts.{is_run_of}

infixl 10 ◌>>=◌
abbrev pub ◌>>=◌ : {A B : Type 0} → Option A → (A → Option B) → Option B
None >>= f = None
(Some x) >>= f = f x

-- a number that is below the limit
abbrev pub below : ℕ → Option ℕ → Option ℕ
below limit None = None
below limit (Some n) = if nat_lt n limit then Some n else None

-- a number that is not zero
abbrev pub not_zero : Option ℕ → Option ℕ
not_zero None = None
not_zero (Some n) = if n == 0 then None else Some n

abbrev pub has_leading_zero : List ℕ → Bool
has_leading_zero (c ∷ d ∷ cs) = c == 48
has_leading_zero _ = false

-- the number below the limit that a text spells: digits, without leading zeros
unfoldable pub number_in : ℕ → List ℕ → Option ℕ
number_in limit text = if has_leading_zero text then None else below limit (digits_of (length text) text)

-- the number that a text spells, with a minus sign only below zero: before and behind the sign, by `spelled`
abbrev pub signed_in : (ℕ → List ℕ → Option ℕ) → ℕ → ℕ → List ℕ → Option ℤ
signed_in spelled most_below most [] = option_map pos (spelled most [])
signed_in spelled most_below most (c ∷ cs) =
    if c == 45 then option_map (λ n. neg_ℤ (pos n)) (not_zero (spelled most_below cs)) else option_map pos (spelled most (c ∷ cs))

-- usages, in the range of 128 bits
unfoldable pub usages_in : List ℕ → Option ℤ
usages_in text = signed_in number_in (2 ^ 127 + 1) (2 ^ 127) text

-- a whole part, a point and ten decimals, in units of 10 ^ -10
abbrev pub units_of_parts : ℕ → List (List ℕ) → Option ℕ
units_of_parts limit (whole ∷ decimals ∷ []) =
    if is_run_of is_ascii_digit 10 decimals
    then (number_in limit whole >>= (λ n. below limit (Some (n * 10 ^ 10 + digits_sum decimals)))) else None
units_of_parts limit _ = None

unfoldable pub units_in : ℕ → List ℕ → Option ℕ
units_in limit text = units_of_parts limit (slice_split (λ b. b == 46) text)

-- an amount, whose units are below 2 ^ 123 in absolute value
unfoldable pub amount_in : List ℕ → Option ℤ
amount_in text = signed_in units_in (2 ^ 123) (2 ^ 123) text
