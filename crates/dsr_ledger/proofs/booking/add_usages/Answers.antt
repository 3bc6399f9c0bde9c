use Rattle.dsr_ledger.proofs.Common.{common_steps, ◌≡◌, ◌≤◌, ◌<◌, ◌*◌, ℕ, suc, ◌+◌, [], ◌∷◌, ◌++◌, take, length, refl, sym, ap, ◌∙◌, subst, arith, option_map, Some, slice_get, AllByRecursion, take_more, length-take, slice_get_read, usage_bookings, IsSmall, IsInRange, tally_at, state_at, state_with, tally_plus, key_tally, TallyFits}
use Rattle.std.proofs.Math.Nat.{mul-le-mul_right}
use Rattle.dsr_ledger.proofs.EachLemmas.{each_append}
use Rattle.dsr_ledger.proofs.KeepsLemmas.{numbers_stay, numbers_twice, planned_stays}
use Rattle.dsr_ledger.proofs.PlanLemmas.{states_none}
use Rattle.dsr_ledger.proofs.StateLemmas.{states_more, states_fit_at}
use Rattle.dsr_ledger.proofs.TallyLemmas.{tally_more, tally_plus-none, tally_fits_after}
use Rattle.dsr_ledger.proofs.SmallLemmas.{each_small, each_usage}
use Rattle.dsr_ledger.proofs.booking.add_usages.Goals as goal

pub add_usage-requires-clause-planned : goal.add_usage-requires-clause-planned
add_usage-requires-clause-planned c =
    let us = c.args.usages.now in let u = c.index-usages-i.result in let h = c.loop-i.invariant in let p = c.requires.planned in
    let at : slice_get us c.loop-i.i ≡ Some u = slice_get_read us (length us) c.loop-i.i u refl c.loop-i-test.true c.index-usages-i.is in
    let stays = planned_stays c.args.ledger.now c.loop-i.ledger c.args.summaries.now c.loop-i.summaries p.2 p.0 p.1 us c.args.plan.now h.numbers h.index p.3 in
    (p.0, p.1, us, p.2, stays, at, p.4)

pub add_usage-requires-clause-ledger_fits : goal.add_usage-requires-clause-ledger_fits
add_usage-requires-clause-ledger_fits c q =
    let i = c.loop-i.i in let us = take i c.args.usages.now in let isrc = c.requires.planned.0 in let works = c.requires.planned.1 in
    let place = c.requires.planned.2 in let bs = usage_bookings place isrc works us in let below = c.loop-i-test.true in
    let own = each_usage IsSmall place isrc works us (each_small works c.requires.planned.4 us c.loop-i.invariant.range) in
    subst (TallyFits 1) (sym (c.loop-i.invariant.tallies isrc works place c.requires.planned.3 q)) (
    tally_fits_after (tally_at c.args.ledger.now q) bs q (length c.args.usages.now) 1 (omega (arith, own.0, length-take i c.args.usages.now)) own.1
    (c.requires.ledger_fits q))

pub add_usage-requires-clause-summaries_fit : goal.add_usage-requires-clause-summaries_fit
add_usage-requires-clause-summaries_fit c id =
    let i = c.loop-i.i in let us = take i c.args.usages.now in let below = c.loop-i-test.true in
    rw (c.loop-i.invariant.states id) (states_fit_at (state_at c.args.summaries.now id) id us (length c.args.usages.now) 1
    (omega (arith, length-take i c.args.usages.now)) c.loop-i.invariant.range (c.requires.summaries_fit id))

-- of spares for n usages, k for each, those for i were used
spares_left : (n i k was now : ℕ) → i < n → n * k ≤ was → was ≤ now + i * k → k ≤ now
spares_left n i k was now below enough kept = let rows : suc i * k ≤ n * k = mul-le-mul_right k below in omega (arith, rows, enough, kept)

spares_used : (i k was now next : ℕ) → was ≤ now + i * k → now ≤ next + k → was ≤ next + (i + 1) * k
spares_used i k was now next before step = omega (arith, before, step)

pub add_usage-requires-clause-spare : goal.add_usage-requires-clause-spare
add_usage-requires-clause-spare c =
    spares_left (length c.args.usages.now) c.loop-i.i (2 + length c.args.plan.now.shares.items) c.args.spares.now c.loop-i.spares c.loop-i-test.true
    c.requires.spare c.loop-i.invariant.spares

pub loop-i-init : goal.loop-i-init
loop-i-init c = record {
  spares = omega arith;
  range = tt;
  numbers = numbers_stay c.args.ledger.now;
  index = λ id. refl;
  states = λ id. states_none id (state_at c.args.summaries.now id);
  tallies = λ isrc works place h q. tally_plus-none (tally_at c.args.ledger.now q);
}

pub loop-i-preserved : goal.loop-i-preserved
loop-i-preserved c =
    let i = c.loop-i.i in let all = c.args.usages.now in let us = take i all in
    let u = c.index-usages-i.result in let before = c.loop-i.invariant in let step = c.add_usage.ensures in
    let more : take (i + 1) all ≡ us ++ u ∷ [] = take_more all i u c.loop-i-test.true ∙ ap (λ x. us ++ x ∷ []) (sym c.index-usages-i.is) in
    let at : slice_get all i ≡ Some u = slice_get_read all (length all) i u refl c.loop-i-test.true c.index-usages-i.is in
    record {
      spares = spares_used i (2 + length c.args.plan.now.shares.items) c.args.spares.now c.loop-i.spares c.add_usage.new.spares before.spares step.spares;
      range = subst (AllByRecursion IsInRange) (sym more) (each_append IsInRange us (u ∷ []) before.range (step.range, tt));
      numbers = numbers_twice c.args.ledger.now c.loop-i.ledger c.add_usage.new.ledger before.numbers step.numbers;
      index = λ id. step.index id ∙ before.index id;
      states = λ id.
          states_more id us u (state_at c.args.summaries.now id) (state_at c.loop-i.summaries id) (state_at c.add_usage.new.summaries id) (before.states id)
          (step.states id) ∙ ap (λ l. option_map (state_with id l) (state_at c.args.summaries.now id)) (sym more);
      tallies = λ isrc works place h q.
          let planned =
          planned_stays c.args.ledger.now c.loop-i.ledger c.args.summaries.now c.loop-i.summaries place isrc works all c.args.plan.now before.numbers
          before.index h in
          let s = tally_at c.args.ledger.now q in
          tally_more s (tally_at c.loop-i.ledger q) (tally_at c.add_usage.new.ledger q) place isrc works us u q
          (before.tallies isrc works place h q) (step.tallies isrc works all place planned at q)
          ∙ ap (λ l. tally_plus s (key_tally (usage_bookings place isrc works l) q)) (sym more);
    }

pub returns-clause-range : goal.returns-clause-range
returns-clause-range c = grind (arith, common_steps)

pub returns-clause-states : goal.returns-clause-states
returns-clause-states c = grind (arith, common_steps)

pub returns-clause-tallies : goal.returns-clause-tallies
returns-clause-tallies c = grind (arith, common_steps)
