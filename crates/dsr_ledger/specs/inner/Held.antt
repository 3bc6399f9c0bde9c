-- What a line holds of its bookings, and of the parts of one party.
use Rattle.std.specs.Prelude.{ℕ, ℤ, pos, ◌+ℤ◌, Bool, true, false}
use Rattle.dsr_events.specs.declared.record.Usage.{Usage}
use Rattle.dsr_ledger.specs.declared.sums.Sums.{Sums}

-- the seat of a party, whether it has a part, and the sum of its parts, in units
pub record HeldPart : Type 0 where
  pub seat : ℕ
  pub has_part : Bool
  pub amount : ℤ

-- the number of a line's summary key, whether there is a booking, and the sums of usages and amounts, in units
pub record HeldLine : Type 0 where
  pub key : ℕ
  pub is_booked : Bool
  pub usages : ℤ
  pub amount : ℤ

abbrev pub nothing_booked : ℕ → HeldLine
nothing_booked key = record { key = key; is_booked = false; usages = pos 0; amount = pos 0 }

-- with one more usage
abbrev pub booked_with : Usage → HeldLine → HeldLine
booked_with u l = record { key = l.key; is_booked = true; usages = l.usages +ℤ u.usages; amount = l.amount +ℤ u.amount }

-- the sums alone
abbrev pub sums_held : HeldLine → Sums
sums_held l = record { usages = l.usages; amount = l.amount }
