use Rattle.dsr_ledger.proofs.Common.{arith, common_steps, [], ◌∷◌, ◌++◌, take, sym, ap, ◌∙◌, append-nil, zip, take_more, flat_map-append, WorkParts, seat_at, shares_of}
use Rattle.dsr_ledger.proofs.KeepsLemmas.{seats_twice}
use Rattle.dsr_ledger.proofs.SeatedLemmas.{seated_more}
use Rattle.dsr_ledger.proofs.booking.plan_works.Goals as goal

pub returns-in_err-plan_work-clause-keeps : goal.returns-in_err-plan_work-clause-keeps
returns-in_err-plan_work-clause-keeps c = seats_twice _ _ _ c.loop-work.invariant.keeps c.plan_work.ensures.keeps

pub loop-work-preserved : goal.loop-work-preserved
loop-work-preserved c =
    let w = c.work-item.result in let ws = take c.loop-work.work-index c.args.works.now in let f = λ (x : WorkParts). zip x.parties x.shares in
    let more = take_more c.args.works.now c.loop-work.work-index w c.loop-work-test.true ∙ ap (λ x. ws ++ x ∷ []) (sym c.work-item.is) in
    let shares = ap shares_of more ∙ flat_map-append f ws (w ∷ []) ∙ ap (λ l. shares_of ws ++ l) (append-nil (f w)) in let before = c.loop-work.invariant in
    record {
      keeps = seats_twice c.args.ledger.now c.loop-work.ledger c.plan_work.new.ledger before.keeps c.plan_work.ensures.keeps;
      seated = λ isrc is. rw shares (seated_more (seat_at c.loop-work.ledger isrc) (seat_at c.plan_work.new.ledger isrc) c.args.plan.now.items
          c.loop-work.plan.items c.plan_work.new.plan.items (shares_of ws) (f w) (c.plan_work.ensures.keeps.seats isrc) (before.seated isrc is)
          (c.in_ok-plan_work.ensures.seated isrc (before.keeps.recordings isrc ∙ is)));
    }

pub returns-clause-seated : goal.returns-clause-seated
returns-clause-seated c = grind (arith, common_steps)
