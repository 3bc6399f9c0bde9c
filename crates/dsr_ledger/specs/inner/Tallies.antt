-- The tally of a key: by its bookings, and as a line has it.
use Rattle.std.specs.Prelude.{◌≡◌, ℕ, ◌+◌, ◌*◌, ◌^◌, ◌<◌, ℤ, ◌+ℤ◌, Bool, true, ◌||◌, nat_lt, List, [], length, map, Option, Some, slice_get, unsigned_abs}
use Rattle.std.specs.Option.{option_and_then}
use Rattle.dsr_events.specs.declared.record.Usage.{Usage}
use Rattle.dsr_ledger.specs.layer.Limits.{amount_bound}
use Rattle.dsr_ledger.specs.meaning.Bookings.{Key, Booking}
use Rattle.dsr_ledger.specs.declared.ledger.parts.SeatShare.{SeatShare}
use Rattle.dsr_ledger.specs.declared.ledger.line.Line.{Line}
use Rattle.dsr_ledger.specs.meaning.Ledger.{Part, all_parts, at_key, usages_sum, amount_sum}
use Rattle.dsr_ledger.specs.inner.Numbered.{AreBelow, Grows, read_at, place_in}
use Rattle.dsr_ledger.specs.inner.Seated.{Owed, owed_in, owed_for, owed_plus, part_seats, HaveParts}

-- whether there is a booking, the sums of usages and amounts (in units), and what each party is owed
pub record Tally : Type 0 where
  pub is_booked : Bool
  pub usages : ℤ
  pub amount : ℤ
  pub owed : List ℕ → Owed

abbrev pub tally_of : List Booking → Tally
tally_of bs = record {
  is_booked = nat_lt 0 (length bs);
  usages = usages_sum bs;
  amount = amount_sum bs;
  owed = λ q. owed_for q (all_parts bs);
}

abbrev pub no_tally : Tally
no_tally = tally_of []

-- the tally of a key's bookings
abbrev pub key_tally : List Booking → Key → Tally
key_tally bs key = tally_of (at_key key bs)

abbrev pub tally_plus : Tally → Tally → Tally
tally_plus a b = record {
  is_booked = a.is_booked || b.is_booked;
  usages = a.usages +ℤ b.usages;
  amount = a.amount +ℤ b.amount;
  owed = λ q. owed_plus (a.owed q) (b.owed q);
}

-- a tally with one more usage, of which parties have these parts
abbrev pub tally_with : Usage → List Part → Tally → Tally
tally_with u parts t = record {
  is_booked = true;
  usages = t.usages +ℤ u.usages;
  amount = t.amount +ℤ u.amount;
  owed = λ q. owed_plus (t.owed q) (owed_for q parts);
}

-- n more usages in range can be added within 128 bits
pub record TallyFits (n : ℕ) (t : Tally) : Type 0 where
  pub usages : unsigned_abs t.usages + n * 2 ^ 63 < 2 ^ 127
  pub amount : unsigned_abs t.amount + n * amount_bound < 2 ^ 127
  pub owed : (q : List ℕ) → unsigned_abs (t.owed q).amount + n * amount_bound < 2 ^ 127

-- the tally of a line, where `seat` gives the seats of parties
abbrev pub line_tally : (List ℕ → Option ℕ) → Line → Tally
line_tally seat l = record {
  is_booked = l.sums.is_booked;
  usages = l.sums.usages;
  amount = l.sums.amount;
  owed = λ q. owed_in l.parts.items.items (seat q);
}

-- the numbers of the lines' summary keys
abbrev pub line_keys : List Line → List ℕ
line_keys ls = map (λ l. l.sums.key) ls

-- the place of the line for the summary key with this number
abbrev pub line_in : List Line → ℕ → Option ℕ
line_in ls key = place_in (line_keys ls) key

-- the tally of these lines for the summary key with this number; zeros if there is none
abbrev pub lines_tally : (List ℕ → Option ℕ) → List Line → Option ℕ → Tally
lines_tally seat ls number = read_at (line_tally seat) no_tally ls (option_and_then (line_in ls) number)

-- the seats of all lines' parts are below `seats`
abbrev pub AreWithin : ℕ → List Line → Type 0
AreWithin seats ls = (i : ℕ) (l : Line) → slice_get ls i ≡ Some l → AreBelow seats (part_seats l.parts.items.items)

-- there is a line at this place, and it has a part for the seat of each share
pub record IsWide (shares : List SeatShare) (ls : List Line) (i : ℕ) : Type 0 where
  pub line : Line
  pub there : slice_get ls i ≡ Some line
  pub wide : HaveParts shares line.parts.items.items

-- the tallies are the same, lines keep their places, and wide lines stay wide; there may be more lines or parts
pub record LinesGrow (old new : List Line) : Type 0 where
  pub tallies : (seat : List ℕ → Option ℕ) (number : Option ℕ) → lines_tally seat new number ≡ lines_tally seat old number
  pub numbers : Grows (line_in old) (line_in new)
  pub wide : (shares : List SeatShare) (i : ℕ) → IsWide shares old i → IsWide shares new i
