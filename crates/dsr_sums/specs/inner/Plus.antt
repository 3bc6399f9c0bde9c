-- Sums, number by number.
use Rattle.std.specs.Prelude.{◌+ℤ◌, pos}
use Rattle.dsr_sums.specs.declared.sums.Sums.{Sums}

abbrev pub plus : Sums → Sums → Sums
plus a b = record {
  usages = a.usages +ℤ b.usages;
  amount = a.amount +ℤ b.amount;
  claimed = a.claimed +ℤ b.claimed;
  unclaimed = a.unclaimed +ℤ b.unclaimed;
}

-- the sums of nothing
abbrev pub zero_sums : Sums
zero_sums = record { usages = pos 0; amount = pos 0; claimed = pos 0; unclaimed = pos 0 }
