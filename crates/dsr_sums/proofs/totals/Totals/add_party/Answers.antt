use Rattle.std.proofs.Common.{ap, ◌∙◌, refl, rules, FitsSigned}
use Rattle.std.proofs.lemmas.Int.{to_z-of_z}
use Rattle.std.specs.Int.{w128}
use Rattle.dsr_ledger.specs.meaning.Bookings.{Key}
use Rattle.dsr_ledger.specs.declared.report.PartyLine.{PartyLine}
use Rattle.dsr_sums.specs.meaning.Accounts.{currency_account, party_account}
use Rattle.dsr_sums.proofs.LineLemmas.{party_added}
use Rattle.dsr_sums.proofs.totals.Totals.add_party.Goals as goal

pub returns : goal.returns
returns c =
    let fits : FitsSigned w128 c.party.inside.amount = search rules in
    party_added c.args.self.now _ c.args.role c.args.key.now c.args.party.now _ _ _
    (c.of_currency-currency.ensures ∙ ap (λ (k : Key). currency_account k.currency) c.key.view_is)
    (c.in_ok-assign.ensures ∙ c.of_party-account.ensures ∙ (λ i. party_account ((ap (λ (p : PartyLine). p.party) c.party.view_is) i) ((ap (λ (k : Key). k.currency) c.key.view_is) i)))
    (to_z-of_z w128 c.party.inside.amount fits ∙ ap (λ (p : PartyLine). p.amount) c.party.view_is) c.in_ok-post_near.ensures c.in_ok-post.ensures refl
