use Rattle.dsr_statement.proofs.NearLines.{unclaimed_near}
use Rattle.dsr_statement.proofs.near.near_unclaimed.Goals as goal

pub returns-clause-spelled : goal.returns-clause-spelled
returns-clause-spelled c =
    unclaimed_near c.args.last.now _ c.args.text.now c.in_ok-key.rest.now c.amount_in_range.result c.unclaimed_of.result c.in_ok-key.ensures.key
    c.in_ok-key.ensures.behind c.amount_in_range.ensures c.unclaimed_of.ensures.own
