-- The seats of a recording's parties, what is owed at them, and the shares of works there.
use Rattle.std.specs.Prelude.{◌≡◌, ℕ, ℤ, pos, Bool, true, false, ◌+ℤ◌, List, Option, ◌||◌, nat_lt, length, filter, map, sum_by, unsigned_abs, ◌<◌, ◌++◌, Some}
use Rattle.std.specs.Option.{option_and_then}
use Rattle.dsr_ledger.specs.declared.ledger.part.SeatPart.{SeatPart}
use Rattle.dsr_ledger.specs.meaning.Limits.{int_sum_by}
use Rattle.dsr_ledger.specs.inner.Numbered.{Grows, read_at, place_in, IsNumbered}
use Rattle.dsr_ledger.specs.meaning.Ledger.{Part, rounded, is_for}
use Rattle.std.specs.List.{flat_map, zip, AllByRecursion, AllZip}
use Rattle.dsr_events.specs.meaning.Works.{WorkParts}
use Rattle.dsr_ledger.specs.declared.ledger.parts.SeatShare.{SeatShare}
use Rattle.dsr_ledger.specs.declared.ledger.seats.Seats.{Seats}

-- whether a party has a part, and the sum of its parts, in units
pub record Owed : Type 0 where
  pub has_part : Bool
  pub amount : ℤ

abbrev pub nothing_owed : Owed
nothing_owed = record { has_part = false; amount = pos 0 }

abbrev pub owed_with : ℤ → Owed → Owed
owed_with amount o = record { has_part = true; amount = o.amount +ℤ amount }

abbrev pub owed_plus : Owed → Owed → Owed
owed_plus a b = record { has_part = a.has_part || b.has_part; amount = a.amount +ℤ b.amount }

-- what these parts add up to
abbrev pub owed_of : List Part → Owed
owed_of ps = record { has_part = nat_lt 0 (length ps); amount = int_sum_by rounded ps }

-- what a party's parts among these add up to
abbrev pub owed_for : List ℕ → List Part → Owed
owed_for party ps = owed_of (filter (is_for party) ps)

-- the sum of the parts' absolute values, in units
abbrev pub parts_size : List Part → ℕ
parts_size ps = sum_by (λ p. unsigned_abs (rounded p)) ps

-- what a seat's part holds
abbrev pub owed_kept : SeatPart → Owed
owed_kept p = record { has_part = p.has_part; amount = p.amount }

-- the seats of the parts
abbrev pub part_seats : List SeatPart → List ℕ
part_seats ps = map (λ p. p.seat) ps

-- what the part at a place holds; nothing if there is none
abbrev pub owed_at_place : List SeatPart → Option ℕ → Owed
owed_at_place ps place = read_at owed_kept nothing_owed ps place

-- the place of a seat's part
abbrev pub part_in : List SeatPart → ℕ → Option ℕ
part_in ps seat = place_in (part_seats ps) seat

-- what the party at a seat is owed
abbrev pub owed_in : List SeatPart → Option ℕ → Owed
owed_in ps seat = owed_at_place ps (option_and_then (part_in ps) seat)

-- the same is owed at each seat, and each part keeps its place; there may be more parts
pub record PartsGrow (old new : List SeatPart) : Type 0 where
  pub owed : (seat : Option ℕ) → owed_in new seat ≡ owed_in old seat
  pub places : Grows (part_in old) (part_in new)

-- the numbers of the parties, each at its seat
abbrev pub seat_numbers : Seats → List ℕ
seat_numbers seats = seats.numbers.items

-- each party of the works, with its share in millionths
abbrev pub shares_of : List WorkParts → List (List ℕ × ℕ)
shares_of works = flat_map (λ w. zip w.parties w.shares) works

-- a share is that of the party, at the party's seat
abbrev pub IsSeated : (List ℕ → Option ℕ) → SeatShare → List ℕ × ℕ → Type 0
IsSeated seat s e = (seat e.0 ≡ Some s.seat) × (s.share ≡ e.1)

-- each share is at the seat of its party
abbrev pub AreSeated : (List ℕ → Option ℕ) → List SeatShare → List (List ℕ × ℕ) → Type 0
AreSeated seat ss es = AllZip (IsSeated seat) ss es

-- the shares of these parties were appended, each at its party's seat
pub record SeatedMore (seat : List ℕ → Option ℕ) (old new : List SeatShare) (es : List (List ℕ × ℕ)) : Type 0 where
  pub more : List SeatShare
  pub items : new ≡ old ++ more
  pub seated : AreSeated seat more es

-- there are n seats, no two parties have the same, and each share is at the seat of its party
pub record HaveSeats (seat : List ℕ → Option ℕ) (n : ℕ) (ss : List SeatShare) (es : List (List ℕ × ℕ)) : Type 0 where
  pub numbered : IsNumbered seat n
  pub seated : AreSeated seat ss es

-- the seats are below n
abbrev pub AreSeatsBelow : ℕ → List SeatShare → Type 0
AreSeatsBelow n ss = AllByRecursion (λ s. s.seat < n) ss

-- the seat of a share has a part
pub record HasPart (ps : List SeatPart) (s : SeatShare) : Type 0 where
  pub place : ℕ
  pub there : part_in ps s.seat ≡ Some place

-- the seats of all shares have parts
abbrev pub HaveParts : List SeatShare → List SeatPart → Type 0
HaveParts ss ps = AllByRecursion (HasPart ps) ss
