-- The texts of amounts and days.
use Rattle.std.specs.Prelude.{ℕ, ◌-◌, ◌/◌, ◌%◌, ◌^◌, List, ◌∷◌, ◌++◌, length, replicate, ℤ, unsigned_abs}
use Rattle.std.specs.Int.{is_negative}
use Rattle.std.specs.Fmt.{decimal, sign_text}
use Rattle.dsr_cells.specs.meaning.Days.{CivilDay}

-- a number padded with leading zeros to at least `width` digits
abbrev pub padded_number : ℕ → ℕ → List ℕ
padded_number width n = replicate (width - length (decimal n)) 48 ++ decimal n

-- an amount: a minus sign only below zero, the whole part with no leading zero, a point, ten decimals
abbrev pub written : ℤ → List ℕ
written n =
    sign_text (is_negative n) ++ decimal (unsigned_abs n / 10 ^ 10) ++ 46 ∷ padded_number 10 (unsigned_abs n % 10 ^ 10)

-- a day: the year, the month and the day, in four, two and two digits
abbrev pub written_day : CivilDay → List ℕ
written_day d = padded_number 4 d.year ++ 45 ∷ padded_number 2 d.month ++ 45 ∷ padded_number 2 d.day
