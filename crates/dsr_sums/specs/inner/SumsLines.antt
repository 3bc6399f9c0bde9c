-- The line of an account.
use Rattle.std.specs.Prelude.{ℕ, List}
use Rattle.dsr_sums.specs.declared.account.Account.{Account}
use Rattle.dsr_sums.specs.declared.sums.Sums.{Sums}
use Rattle.dsr_sums.specs.declared.text.SumsLine.{SumsLine}
use Rattle.dsr_sums.specs.declared.text.SumsLine.TheVariants.{Currency, Market, Party}
use Rattle.dsr_sums.specs.meaning.Totals.{currency_line, market_line, party_line}

abbrev pub sums_line : SumsLine → Account × Sums → List ℕ
sums_line Currency e = currency_line e
sums_line Market e = market_line e
sums_line Party e = party_line e
