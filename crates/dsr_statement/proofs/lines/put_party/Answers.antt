use Rattle.dsr_statement.proofs.Common.{append_assoc, rules, append-nil}
use Rattle.dsr_statement.proofs.LineLemmas.{then, turn}
use Rattle.dsr_statement.proofs.lines.put_party.Goals as goal

pub returns : goal.returns
returns g c =
    turn (then c.put.ensures (then c.put_key.ensures (then c.put_text.ensures c.put_last_amount.ensures)))
    (search (rules, append_assoc, append-nil))
