use Rattle.dsr_ledger.proofs.Common.{Some, rules, ◌≡◌, suc, ◌+◌, [], ◌∷◌, ◌++◌, take, get_or, length, sym, ap, ◌∙◌, subst, arith, zip, take_all, length-zip, seat_at, SeatedMore}
use Rattle.dsr_ledger.proofs.KeepsLemmas.{seats_twice}
use Rattle.dsr_ledger.proofs.SeatedLemmas.{seated_more, next_share}
use Rattle.dsr_ledger.proofs.booking.plan_work.Goals as goal

pub returns-in_err-push-clause-keeps : goal.returns-in_err-push-clause-keeps
returns-in_err-push-clause-keeps c = seats_twice _ _ _ c.loop-i.invariant.keeps c.seat.ensures.keeps

pub loop-i-preserved : goal.loop-i-preserved
loop-i-preserved c =
    let i = c.loop-i.i in let p = c.party-item.result in let s = c.index-shares-i.result in let parties = c.work.inside.parties in
    let shares = c.work.inside.shares in let w = c.args.work.now in let next : i + 1 ≡ suc i = omega arith in let test = c.loop-i-test.true in
    let long = ap length c.as_slice-party-items.ensures in
    let at : p ≡ get_or parties i p = c.party-item.is ∙ ap (λ l. get_or l i p) c.as_slice-party-items.ensures in
    let with_share : s ≡ get_or shares i s = c.index-shares-i.is ∙ ap (λ l. get_or l i s) c.as_slice-shares.ensures in
    let seen = ap (λ w. take (i + 1) (zip w.parties w.shares)) (sym c.work.view_is) ∙ ap (λ m. take m (zip parties shares)) next
    ∙ next_share parties shares i p s (omega arith) c.work.invariant at with_share in
    let was = ap (λ w. take i (zip w.parties w.shares)) (sym c.work.view_is) in let before = c.loop-i.invariant in
    record {
      keeps = seats_twice c.args.ledger.now c.loop-i.ledger c.seat.new.self before.keeps c.seat.ensures.keeps;
      seated = λ isrc is.
          let same : c.in_ok-seat.seat ≡ c.in_ok-number.number = search rules in
          let there = c.in_ok-number.ensures.there isrc (before.keeps.recordings isrc ∙ is) ∙ ap Some (sym same) in
          subst (SeatedMore (seat_at c.seat.new.self isrc) c.args.plan.now.items c.push.new.self.items) (ap (λ l. l ++ (p, s) ∷ []) was ∙ sym seen) (
          seated_more (seat_at c.loop-i.ledger isrc) (seat_at c.seat.new.self isrc) c.args.plan.now.items c.loop-i.plan.items c.push.new.self.items
          (take i (zip w.parties w.shares)) ((p, s) ∷ []) (c.seat.ensures.keeps.seats isrc) (before.seated isrc is) (record {
            more = record { seat = c.in_ok-seat.seat; share = c.parts.result } ∷ [];
            items = c.in_ok-push.ensures.items;
            seated = ((there, c.parts.ensures.value), tt);
          }));
    }

pub returns-clause-seated : goal.returns-clause-seated
returns-clause-seated c = λ isrc is.
    let w = c.args.work.now in let test = c.loop-i-test.false in let long = ap length c.as_slice-party-items.ensures in
    let many : length (zip w.parties w.shares) ≡ length c.work.inside.parties = ap (λ w. length (zip w.parties w.shares)) (sym c.work.view_is)
    ∙ (let z = length-zip c.work.inside.parties c.work.inside.shares in let e = c.work.invariant in omega arith) in
    subst (SeatedMore (seat_at c.loop-i.ledger isrc) c.args.plan.now.items c.loop-i.plan.items) (take_all c.loop-i.i (zip w.parties w.shares) (omega arith))
    (c.loop-i.invariant.seated isrc is)
