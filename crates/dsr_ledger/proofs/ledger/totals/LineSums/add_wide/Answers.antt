use Rattle.dsr_ledger.proofs.Common.{rules, ◌≡◌, ◌+ℤ◌, true}
use Rattle.dsr_ledger.proofs.ledger.totals.LineSums.add_wide.Goals as goal

pub returns-clause-sums : goal.returns-clause-sums
returns-clause-sums c =
    let usages : c.take.result.value ≡ c.args.self.now.usages +ℤ c.args.usage.now.usages = search rules in
    let amount : c.take-2.result.value ≡ c.args.self.now.amount +ℤ c.args.usage.now.amount = search rules in
    λ i. record { key = c.key-key.ensures i; is_booked = true; usages = usages i; amount = amount i }
