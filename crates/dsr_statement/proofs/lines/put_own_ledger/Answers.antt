use Rattle.dsr_statement.proofs.Common.{◌≡◌, append-nil, rules, sym, to_z, of_z, w128}
use Rattle.dsr_statement.specs.meaning.Statement.{lines_of_ledger, text_of}
use Rattle.dsr_statement.specs.inner.Rows.{sums_bytes, party_bytes}
use Rattle.dsr_statement.proofs.LineLemmas.{then, turn, more, all, ledger_parts}
use Rattle.dsr_statement.proofs.lines.put_own_ledger.Goals as goal

pub loop-party-init : goal.loop-party-init
loop-party-init g c = turn c.put_sums.ensures (sym (append-nil _))

pub loop-party-preserved : goal.loop-party-preserved
loop-party-preserved g c =
    let l = c.of-laid.result in let p = c.party-item.result in let amount : to_z w128 (of_z w128 p.amount) ≡ p.amount = search rules in
    more (sums_bytes l) (party_bytes l) c.as_slice-party-items.result.now c.loop-party.party-index p _ c.loop-party-test.true c.party-item.is
    c.loop-party.invariant (turn c.put_party.ensures (λ i. party_bytes l (record p { amount = amount i })))

pub returns : goal.returns
returns g c =
    let l = c.args.line.now in let usages : to_z w128 (of_z w128 l.usages) ≡ l.usages = search rules in
    let amount : to_z w128 (of_z w128 l.amount) ≡ l.amount = search rules in let left : to_z w128 (of_z w128 l.unclaimed) ≡ l.unclaimed = search rules in
    let laid = c.of-laid.result in let ps = c.as_slice-party-items.result.now in
    let parties = all (sums_bytes laid) (party_bytes laid) ps c.loop-party.party-index c.loop-party-test.false c.loop-party.invariant in
    let puts = turn (turn (then parties c.put_unclaimed.ensures) (ledger_parts laid ps))
    (λ i. text_of (lines_of_ledger (record (c.of-laid.ensures i) { parties = c.as_slice-party-items.ensures i }))) in
    turn puts (λ i. text_of (lines_of_ledger (record l { usages = usages i; amount = amount i; unclaimed = left i })))
