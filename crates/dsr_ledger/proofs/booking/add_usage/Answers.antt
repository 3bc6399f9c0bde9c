use Rattle.dsr_ledger.proofs.Common.{◌≡◌, ◌<◌, length, sym, ap, ◌∙◌, subst, arith, rules, Some, key_under, booked_under, parts_size, tally_at, shares_of, tally_plus, key_tally, vec_len}
use Rattle.dsr_ledger.proofs.TallyLemmas.{parts_within, tally_with-key}
use Rattle.dsr_ledger.proofs.SeatedLemmas.{parts_of_shares}
use Rattle.dsr_ledger.proofs.PlanLemmas.{step_of}
use Rattle.dsr_ledger.proofs.booking.add_usage.Goals as goal

pub index-line-requires : goal.index-line-requires
index-line-requires c =
    let p = c.requires.planned in let s = step_of c.args.ledger.now c.args.summaries.now p.3 p.0 p.1 p.2 c.args.i c.args.usage.now c.args.plan.now p.4 p.5 in
    let long : length c.args.plan.now.lines.items ≡ vec_len c.args.plan.now.lines = search rules in
    subst (λ n. c.args.i < n) long s.line_below

pub count-requires-clause-there : goal.count-requires-clause-there
count-requires-clause-there c =
    let p = c.requires.planned in let s = step_of c.args.ledger.now c.args.summaries.now p.3 p.0 p.1 p.2 c.args.i c.args.usage.now c.args.plan.now p.4 p.5 in
    s.summary_is ∙ ap Some (sym (c.index-summary.ensures ∙ s.summary_at _))

pub count-requires-clause-fits : goal.count-requires-clause-fits
count-requires-clause-fits c = c.requires.summaries_fit c.args.usage.now.summary_id

pub add-requires-clause-fits : goal.add-requires-clause-fits
add-requires-clause-fits c =
    let p = c.requires.planned in let s = step_of c.args.ledger.now c.args.summaries.now p.3 p.0 p.1 p.2 c.args.i c.args.usage.now c.args.plan.now p.4 p.5 in
    let a = c.args.usage.now.amount in let works = p.1 in
    let line = s.line_of c.index-line.result.now (c.index-line.ensures ∙ s.line_at _) c.as_slice.result.now c.as_slice.ensures.value in
    let within = parts_within a works p.6 in let range = c.count.ensures.range.amount in let size = ap parts_size (parts_of_shares a works) in
    (p.0, s.key, shares_of works, line, c.requires.ledger_fits (key_under p.0 s.key), omega arith)

pub returns-clause-tallies : goal.returns-clause-tallies
returns-clause-tallies c = λ isrc works us place planned at q.
    let s = step_of c.args.ledger.now c.args.summaries.now place isrc works us c.args.i c.args.usage.now c.args.plan.now planned at in
    let u = c.args.usage.now in let t = tally_at c.args.ledger.now q in
    let line = s.line_of c.index-line.result.now (c.index-line.ensures ∙ s.line_at _) c.as_slice.result.now c.as_slice.ensures.value in
    c.add.ensures.tally isrc s.key (shares_of works) line q ∙ s.with_parts t q ∙ tally_with-key t isrc works u s.key q
    ∙ ap (λ o. tally_plus t (key_tally (booked_under isrc works u o) q)) (sym s.key_is)
