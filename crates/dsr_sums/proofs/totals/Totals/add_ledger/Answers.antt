use Rattle.std.proofs.Common.{ap, ◌∙◌, refl}
use Rattle.std.proofs.lemmas.Int.{to_z-of_z}
use Rattle.std.specs.Int.{w128}
use Rattle.dsr_ledger.specs.meaning.Bookings.{Key}
use Rattle.dsr_sums.specs.meaning.Accounts.{currency_account, market_account}
use Rattle.dsr_sums.proofs.LineLemmas.{ledger_added}
use Rattle.dsr_sums.proofs.totals.Totals.add_ledger.Goals as goal

pub returns : goal.returns
returns c =
    ledger_added c.args.self.now _ c.args.role c.args.key.now c.args.usages c.args.amount _ _ _ _
    (c.of_currency-currency.ensures ∙ ap (λ (k : Key). currency_account k.currency) c.key.view_is)
    (c.of_market-market.ensures ∙ ap (λ (k : Key). market_account k.territory k.use_type k.currency) c.key.view_is)
    (to_z-of_z w128 c.args.usages c.ranges.usages) (to_z-of_z w128 c.args.amount c.ranges.amount) c.in_ok-post_near.ensures c.in_ok-post_near-2.ensures refl
