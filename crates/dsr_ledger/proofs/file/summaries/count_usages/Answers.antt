use Rattle.dsr_ledger.proofs.Common.{[], ◌∷◌, ◌++◌, take, sym, ap, ◌∙◌, subst, arith, length, option_map, AllByRecursion, take_more, length-take, IsInRange, state_at, state_with}
use Rattle.dsr_ledger.proofs.EachLemmas.{each_append}
use Rattle.dsr_ledger.proofs.StateLemmas.{states_more, states_fit_at}
use Rattle.dsr_ledger.proofs.file.summaries.count_usages.Goals as goal

pub count_one-requires : goal.count_one-requires
count_one-requires c id =
    let i = c.loop-usage.usage-index in let us = take i c.args.usages.now in let below = c.loop-usage-test.true in
    rw (c.loop-usage.invariant.summaries id) (states_fit_at (state_at c.args.summaries.now id) id us (length c.args.usages.now) 1
    (omega (arith, length-take i c.args.usages.now)) c.loop-usage.invariant.range (c.requires id))

pub loop-usage-preserved : goal.loop-usage-preserved
loop-usage-preserved c =
    let i = c.loop-usage.usage-index in let us = take i c.args.usages.now in let u = c.usage-item.result in
    let more = take_more c.args.usages.now i u c.loop-usage-test.true ∙ ap (λ x. us ++ x ∷ []) (sym c.usage-item.is) in
    record {
      range = subst (AllByRecursion IsInRange) (sym more) (each_append IsInRange us (u ∷ []) c.loop-usage.invariant.range (c.count_one.ensures.range, tt));
      summaries = λ id. states_more id us u (state_at c.args.summaries.now id) (state_at c.loop-usage.summaries id) (state_at c.count_one.new.summaries id)
          (c.loop-usage.invariant.summaries id) (c.count_one.ensures.summaries id)
          ∙ ap (λ l. option_map (state_with id l) (state_at c.args.summaries.now id)) (sym more);
    }
