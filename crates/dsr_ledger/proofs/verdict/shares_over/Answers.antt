use Rattle.dsr_ledger.proofs.Common.{common_steps, arith, sum, sym, ap, ◌∙◌, sum_by_more_le, lt-ltb, WorkParts, share_total}
use Rattle.dsr_ledger.proofs.verdict.shares_over.Goals as goal

pub returns-then-parts-total : goal.returns-then-parts-total
returns-then-parts-total c =
    let works = c.args.works.now in let shares = c.as_slice-share-items.result.now in let w = c.work-item.result in let s = c.share-item.result in
    let outer = sum_by_more_le (λ (w : WorkParts). sum w.shares) works c.loop-work.work-index w c.loop-work-test.true in
    let inner = sum_by_more_le (λ x. x) shares c.loop-share.share-index s c.loop-share-test.true in
    let here = ap (λ (w : WorkParts). sum w.shares) c.work-item.is in
    let same = ap sum c.as_slice-share-items.ensures ∙ ap (λ (w : WorkParts). sum w.shares) c.work.view_is in
    let at = c.share-item.is in let value = c.parts-parts.ensures.value in let so_far = c.loop-share.invariant.so_far in let over = c.if-parts-total.true in
    let whole = c.loop-share.invariant.whole in
    sym (lt-ltb 1000000 (share_total works) (omega arith))

pub loop-share-preserved : goal.loop-share-preserved
loop-share-preserved c = grind (arith, common_steps)

pub loop-work-preserved : goal.loop-work-preserved
loop-work-preserved c = grind (arith, common_steps)

pub returns : goal.returns
returns c = grind (arith, common_steps)
