-- The days that cells spell, and their numbers.
use Rattle.std.specs.Prelude.{ℕ, ◌&&◌, ◌==◌, Bool, if◌then◌else◌, List, [], ◌∷◌, Option, Some, None, ℤ, pos}
use Rattle.std.specs.Char.{is_ascii_digit}
use Rattle.std.specs.Int.{is_in_range}
use Rattle.std.specs.List.{slice_split}
use Rattle.jiff_core.specs.Calendar.{days_in_month, days_from_civil}
use Rattle.dsr_cells.specs.meaning.Numbers.{digits_sum}
use Rattle.dsr_cells.specs.meaning.Texts.{is_run_of}

-- a day of the calendar
pub record CivilDay : Type 0 where
  pub year : ℕ
  pub month : ℕ
  pub day : ℕ

-- the calendar has this day
abbrev pub is_civil_day : CivilDay → Bool
is_civil_day d = is_in_range 0 9999 d.year && is_in_range 1 12 d.month && is_in_range 1 (days_in_month (pos d.year) d.month) d.day

-- the day number that `jiff_core` gives the date: 0 for 1970-01-01
abbrev pub day_number : CivilDay → ℤ
day_number d = days_from_civil (pos d.year) d.month d.day

abbrev pub if_civil : CivilDay → Option CivilDay
if_civil d = if is_civil_day d then Some d else None

-- four, two and two digits, with a hyphen between them, that make a day of the calendar
abbrev pub day_of_parts : List (List ℕ) → Option CivilDay
day_of_parts (y ∷ m ∷ d ∷ []) =
    if is_run_of is_ascii_digit 4 y && is_run_of is_ascii_digit 2 m && is_run_of is_ascii_digit 2 d
    then if_civil (record { year = digits_sum y; month = digits_sum m; day = digits_sum d }) else None
day_of_parts _ = None

abbrev pub day_of : List ℕ → Option CivilDay
day_of text = day_of_parts (slice_split (λ b. b == 45) text)
