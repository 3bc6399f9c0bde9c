-- The laws of totals.
use Rattle.std.specs.Prelude.{◌≡◌, ◌+ℤ◌, List}
use Rattle.std.specs.List.{flat_map}
use Rattle.dsr_sums.specs.declared.account.Account.{Account}
use Rattle.dsr_sums.specs.declared.sums.Sums.{Sums}
use Rattle.dsr_sums.specs.meaning.Postings.{balance}
use Rattle.dsr_sums.specs.meaning.Statements.{Statement, booked_lines}
use Rattle.dsr_sums.specs.meaning.Totals.{to_currency}

-- what parties claim and what nobody claims add up to the amount
abbrev pub AddUp : Sums → Type 0
AddUp s = s.claimed +ℤ s.unclaimed ≡ s.amount

-- the sums of this account over the lines of statements, of those that are told by currency
abbrev pub currency_sums : List Statement → Account → Sums
currency_sums ss account = balance (flat_map to_currency (booked_lines ss)) account
