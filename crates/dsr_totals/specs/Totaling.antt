-- What is done with the totals of statements: what is written, the exit status and the line on standard error.
use Rattle.std.specs.Prelude.{◌≡◌, ◌≤◌, ◌-◌, ℕ, Bool, nat_lt, if◌then◌else◌, List, [], ◌∷◌, codes, length, take, slice_get, Result, Ok, Err, unwrap_or}
use Rattle.dsr_command.specs.Faults.{failed_line, IsTold}
use Rattle.dsr_io.specs.meaning.Told.{Told}
use Rattle.dsr_io.specs.meaning.Written.{Written, IsFlushed, IsCut}
use Rattle.dsr_statement.specs.declared.fault.StatementFault.{StatementFault}
use Rattle.dsr_statement.specs.declared.fault.StatementFault.TheVariants as fault
use Rattle.dsr_sums.specs.declared.answer.TotalsError.{TotalsError}
use Rattle.dsr_sums.specs.declared.answer.TotalsError.TheVariants.{Refused, OutOfRange, Memory}
use Rattle.dsr_sums.specs.meaning.Sources.{HasTotals, HasNoTotals}
use Rattle.dsr_totals.specs.declared.command.Asked.{Asked}
use Rattle.dsr_totals.specs.declared.totaling.WriteError.{WriteError}
use Rattle.dsr_totals.specs.declared.totaling.WriteError.TheVariants.{NoTotals, Write}
use Rattle.dsr_totals.specs.Refusals.{dsr_totals, no_totals_line, no_totals_status}

-- how many statements are given: standard input is one, if none is named
abbrev pub given_count : List (List ℕ) → ℕ
given_count [] = 1
given_count (name ∷ names) = length (name ∷ names)

-- the name at this place: `-` if there is none
abbrev pub name_in : List (List ℕ) → ℕ → List ℕ
name_in names place = unwrap_or (slice_get names place) (codes "-")

-- the name of the statement at this place, the given ones first
abbrev pub name_at : Asked → ℕ → List ℕ
name_at asked place = if nat_lt place (given_count asked.given) then name_in asked.given place
    else name_in asked.paid (place - given_count asked.given)

-- the name of the statement that is refused, if one is
abbrev pub refused_name : Asked → TotalsError → List ℕ
refused_name asked (Refused place line fault) = name_at asked place
refused_name asked OutOfRange = codes "-"
refused_name asked Memory = codes "-"

-- the name of the earlier statement that a fault names, if it names one
abbrev pub other_name : Asked → StatementFault → List ℕ
other_name asked (fault.SameMessage place) = name_at asked place
other_name asked (fault.Twice place) = name_at asked place
other_name asked _ = []

-- the same of the fault of the statement that is refused, if one is
abbrev pub refused_other : Asked → TotalsError → List ℕ
refused_other asked (Refused place line fault) = other_name asked fault
refused_other asked OutOfRange = []
refused_other asked Memory = []

-- the text of the sources' totals was written and flushed; or they have none, and nothing was written; or just the first n
-- bytes of the text were written, and the output failed
abbrev pub WroteTotals : {R : Type 0} → (R → Told) → Asked → List R → List R → Written → Written → Result (Unit {0}) WriteError → Type 0
WroteTotals told asked sources left before after (Ok done) =
    (text : List ℕ) × HasTotals told (given_count asked.given) asked.rules sources left text × IsFlushed text before after
WroteTotals told asked sources left before after (Err (NoTotals error)) =
    HasNoTotals told (given_count asked.given) asked.rules sources left error × (after ≡ before)
WroteTotals told asked sources left before after (Err (Write n)) =
    (text : List ℕ) × HasTotals told (given_count asked.given) asked.rules sources left text
    × (n ≤ length text) × IsCut (take n text) before after

-- the exit status where they were not written
abbrev pub error_status : WriteError → ℕ
error_status (NoTotals error) = no_totals_status error
error_status (Write n) = 3

-- the line on standard error
abbrev pub error_line : Asked → WriteError → List ℕ
error_line asked (NoTotals error) = no_totals_line (refused_name asked error) (refused_other asked error) error
error_line asked (Write n) = failed_line dsr_totals n

-- standard error has the line of an error, and nothing more if there is none; and this is the exit status
abbrev pub IsAnswerTold : Asked → Result (Unit {0}) WriteError → Written → Written → ℕ → Type 0
IsAnswerTold asked (Ok done) before after status = (after ≡ before) × (status ≡ 0)
IsAnswerTold asked (Err error) before after status = IsTold before after (error_line asked error) × (status ≡ error_status error)
