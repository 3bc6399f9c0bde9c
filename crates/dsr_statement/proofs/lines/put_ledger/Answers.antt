use Rattle.dsr_statement.proofs.Common.{append-nil, sym}
use Rattle.dsr_statement.specs.meaning.Statement.{lines_of_ledger, text_of}
use Rattle.dsr_statement.specs.inner.Rows.{sums_bytes, party_bytes}
use Rattle.dsr_statement.proofs.LineLemmas.{then, turn, more, all, ledger_parts}
use Rattle.dsr_statement.proofs.lines.put_ledger.Goals as goal

pub returns-then-drop_if_failed : goal.returns-then-drop_if_failed
returns-then-drop_if_failed g c =
    c.drop_if_failed.ensures.dropped c.if-drop_if_failed.true (text_of (lines_of_ledger (record c.args.line.now { parties = c.args.parties.now })))

pub loop-party-init : goal.loop-party-init
loop-party-init g c = rw (c.drop_if_failed.ensures.kept c.if-drop_if_failed.false) at (turn c.put_sums.ensures (sym (append-nil _)))

pub loop-party-preserved : goal.loop-party-preserved
loop-party-preserved g c =
    let l = c.of-laid.result in
    more (sums_bytes l) (party_bytes l) c.args.parties.now c.loop-party.party-index c.party-item.result _ c.loop-party-test.true c.party-item.is
    c.loop-party.invariant c.put_party.ensures

pub returns : goal.returns
returns g c =
    let l = c.of-laid.result in let ps = c.args.parties.now in
    let parties = all (sums_bytes l) (party_bytes l) ps c.loop-party.party-index c.loop-party-test.false c.loop-party.invariant in
    turn (turn (then parties c.put_unclaimed.ensures) (ledger_parts l ps)) (λ i. text_of (lines_of_ledger (record (c.of-laid.ensures i) { parties = ps })))
