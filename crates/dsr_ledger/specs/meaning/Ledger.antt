-- The ledger: the parts of the parties in bookings, and its lines.
use Rattle.std.specs.Prelude.{ℕ, ℤ, pos, ◌*ℤ◌, ◌-ℤ◌, Bool, List, filter, map}
use Rattle.std.specs.Int.RustNames.{int_div}
use Rattle.std.specs.List.{flat_map, zip}
use Rattle.std.specs.Str.{bytes_eq}
use Rattle.dsr_events.specs.meaning.Works.{WorkParts}
use Rattle.dsr_ledger.specs.meaning.Limits.{int_sum_by}
use Rattle.dsr_ledger.specs.meaning.Bookings.{Booking, Key, key_eq, key_cmp, text_cmp, in_order}
use Rattle.dsr_ledger.specs.declared.report.PartyLine.{PartyLine}
use Rattle.dsr_ledger.specs.declared.report.LedgerLine.{LedgerLine}

-- a party's exact share of one usage's amount, in millionths of a unit
pub record Part : Type 0 where
  pub party : List ℕ
  pub exact : ℤ

-- a part in units of 10^-10 of the currency, rounded toward zero
abbrev pub rounded : Part → ℤ
rounded q = int_div q.exact (pos 1000000)

-- the part of an amount, in units, that a party has by its share, in millionths
abbrev pub part_of : ℤ → List ℕ × ℕ → Part
part_of amount e = record { party = e.0; exact = amount *ℤ pos e.1 }

-- the parts of an amount by a work: one for each party with its share
abbrev pub work_parts : ℤ → WorkParts → List Part
work_parts amount w = map (part_of amount) (zip w.parties w.shares)

-- the parts of a booking: those by each work of its block
abbrev pub parts_of : Booking → List Part
parts_of b = flat_map (work_parts b.usage.amount) b.works

-- the parts of all bookings, in order
abbrev pub all_parts : List Booking → List Part
all_parts bs = flat_map parts_of bs

abbrev pub is_for : List ℕ → Part → Bool
is_for party q = bytes_eq q.party party

-- the sum of a party's rounded parts, in units
abbrev pub party_amount : List Booking → List ℕ → ℤ
party_amount bs party = int_sum_by rounded (filter (is_for party) (all_parts bs))

-- a booking's amount minus its rounded parts, in units
abbrev pub left_over : Booking → ℤ
left_over b = b.usage.amount -ℤ int_sum_by rounded (parts_of b)

-- the unclaimed amount of bookings: the sum of what they leave over, in units
abbrev pub unclaimed : List Booking → ℤ
unclaimed bs = int_sum_by left_over bs

abbrev pub is_at_key : Key → Booking → Bool
is_at_key key b = key_eq b.key key

-- the bookings of a key
abbrev pub at_key : Key → List Booking → List Booking
at_key key bs = filter (is_at_key key) bs

-- the sum of the usages of bookings
abbrev pub usages_sum : List Booking → ℤ
usages_sum bs = int_sum_by (λ b. b.usage.usages) bs

-- the sum of the amounts of bookings, in units
abbrev pub amount_sum : List Booking → ℤ
amount_sum bs = int_sum_by (λ b. b.usage.amount) bs

-- the parties that have a part in these bookings, each once, in the byte order of their names, with the sums of their
-- parts
unfoldable pub party_lines : List Booking → List PartyLine
party_lines bs =
    map (λ e. record { party = e.0; amount = e.1 }) (in_order text_cmp (party_amount bs) (map (λ q. q.party) (all_parts bs)))

-- the line of a key with these bookings
unfoldable pub line_of : Key → List Booking → LedgerLine
line_of key bs = record {
  isrc = key.isrc;
  territory = key.territory;
  use_type = key.use_type;
  currency = key.currency;
  usages = usages_sum bs;
  amount = amount_sum bs;
  parties = party_lines bs;
  unclaimed = unclaimed bs;
}

-- the lines of all keys that have a booking, in the order of the keys
unfoldable pub ledger : List Booking → List LedgerLine
ledger bs = map (λ e. e.1) (in_order key_cmp (λ key. line_of key (at_key key bs)) (map (λ b. b.key) bs))
