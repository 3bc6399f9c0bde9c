use Rattle.dsr_statement.proofs.NearLines.{first_cut, party_near}
use Rattle.dsr_statement.proofs.near.near_party.Goals as goal

pub returns-clause-spelled : goal.returns-clause-spelled
returns-clause-spelled c =
    let cut = first_cut c.in_ok-key.rest.now c.in_ok-party.party.now c.in_ok-party.amount.now c.in_ok-party.ensures in
    party_near c.args.last.now _ c.args.text.now c.in_ok-key.rest.now c.in_ok-party.party.now c.in_ok-party.amount.now c.amount_in_range.result c.party_of.result
    c.in_ok-key.ensures.key c.in_ok-key.ensures.behind cut.0 cut.1 c.amount_in_range.ensures c.party_of.ensures.own
