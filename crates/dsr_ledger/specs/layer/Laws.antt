-- The laws of shares, over the ledger lines of a report.
use Rattle.std.specs.Prelude.{◌≡◌, ◌*◌, ◌<◌, ℤ, pos, ◌+ℤ◌, ◌-ℤ◌, ◌*ℤ◌, ◌≤ℤ◌, ◌<ℤ◌, List, All, filter, length, unsigned_abs}
use Rattle.dsr_ledger.specs.meaning.Bookings.{Booking, bookings}
use Rattle.dsr_ledger.specs.declared.report.PartyLine.{PartyLine}
use Rattle.dsr_ledger.specs.declared.report.LedgerLine.{LedgerLine}
use Rattle.dsr_ledger.specs.meaning.Limits.{int_sum_by}
use Rattle.dsr_ledger.specs.meaning.Files.{File}
use Rattle.dsr_ledger.specs.meaning.Ledger.{Part, all_parts, is_for, at_key}
use Rattle.dsr_ledger.specs.meaning.Reports.{report_of}
use Rattle.dsr_ledger.specs.meaning.Laws.{key_of_line}

-- the bookings of a line's key
abbrev pub line_bookings : List File → LedgerLine → List Booking
line_bookings files l = at_key (key_of_line l) (bookings files)

-- a party's parts of a line's bookings
abbrev pub line_parts : List File → LedgerLine → PartyLine → List Part
line_parts files l p = filter (is_for p.party) (all_parts (line_bookings files l))

-- the exact sum of amount times share, in millionths of a unit
abbrev pub exact_sum : List Part → ℤ
exact_sum ps = int_sum_by (λ q. q.exact) ps

-- the parties' amounts and the unclaimed amount add up to the line's amount
abbrev pub AddsUp : LedgerLine → Type 0
AddsUp l = int_sum_by (λ p. p.amount) l.parties +ℤ l.unclaimed ≡ l.amount

abbrev pub SharesAddUp : List File → Type 0
SharesAddUp files = All AddsUp (report_of files).ledger

-- a party's amount differs from its exact sum by less than one unit for each of its parts
abbrev pub IsNear : List Part → PartyLine → Type 0
IsNear ps p = unsigned_abs ((pos 1000000 *ℤ p.amount) -ℤ exact_sum ps) < 1000000 * length ps

abbrev pub SharesAreNear : List File → Type 0
SharesAreNear files = All (λ l. All (λ p. IsNear (line_parts files l p) p) l.parties) (report_of files).ledger

-- a party's amount is at most its exact sum, and below it by less than one unit for each of its parts
abbrev pub IsRoundedDown : List Part → PartyLine → Type 0
IsRoundedDown ps p =
    ((pos 1000000 *ℤ p.amount) ≤ℤ exact_sum ps) × (exact_sum ps <ℤ (pos 1000000 *ℤ (p.amount +ℤ pos (length ps))))

-- no booking has a negative amount
abbrev pub NoneIsNegative : List Booking → Type 0
NoneIsNegative bs = All (λ b. pos 0 ≤ℤ b.usage.amount) bs

-- the unclaimed amount is not negative, and the parties' amounts are rounded down
abbrev pub IsWithin : List File → LedgerLine → Type 0
IsWithin files l = (pos 0 ≤ℤ l.unclaimed) × All (λ p. IsRoundedDown (line_parts files l p) p) l.parties

abbrev pub SharesAreWithin : List File → Type 0
SharesAreWithin files = All (λ l. NoneIsNegative (line_bookings files l) → IsWithin files l) (report_of files).ledger
