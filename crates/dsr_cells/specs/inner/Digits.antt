-- Digits in the bytes of a word.
use Rattle.std.specs.Prelude.{◌≡◌, ◌<◌, ◌+◌, ◌-◌, ◌*◌, ◌^◌, ℕ, true, List, length, map}
use Rattle.std.specs.Char.{is_ascii_digit}
use Rattle.std.specs.Int.Bits.{bit_xor}
use Rattle.std.specs.List.{list_all}
use Rattle.std.specs.Simd.Lanes.{Each1, number_l}
use Rattle.dsr_cells.specs.meaning.Numbers.{digits_sum, is_digits}

-- the word that four bytes make, the first of them the lowest
abbrev pub word_of_four : ℕ → ℕ → ℕ → ℕ → ℕ
word_of_four a b c d = a + 256 * (b + 256 * (c + 256 * d))

-- the word that eight bytes make, the first of them the lowest
abbrev pub word_of_eight : ℕ → ℕ → ℕ → ℕ → ℕ → ℕ → ℕ → ℕ → ℕ
word_of_eight a b c d e f g h = word_of_four a b c d + 2 ^ 32 * word_of_four e f g h

-- the number of eight digits
abbrev pub number_of_eight : ℕ → ℕ → ℕ → ℕ → ℕ → ℕ → ℕ → ℕ → ℕ
number_of_eight a b c d e f g h = 10000 * (1000 * a + 100 * b + 10 * c + d) + (1000 * e + 100 * f + 10 * g + h)

-- the word that these eight bytes make, each of them taken with '0' by an exclusive or
abbrev pub IsWordOf : List ℕ → ℕ → Type 0
IsWordOf bytes word = (length bytes ≡ 8) × Each1 (λ b. b < 256) bytes × (word ≡ number_l 256 (map (λ b. bit_xor b 48) bytes))

-- the number that these bytes spell, all of which are digits
abbrev pub SpellsNumber : List ℕ → ℕ → Type 0
SpellsNumber bytes n = (list_all is_ascii_digit bytes ≡ true) × (n ≡ digits_sum bytes)

-- 1 to `places` digits, which as decimals make n in units of 10 ^ -places
abbrev pub IsFilledUp : ℕ → List ℕ → ℕ → Type 0
IsFilledUp places digits n = (is_digits places digits ≡ true) × (n ≡ digits_sum digits * 10 ^ (places - length digits))
