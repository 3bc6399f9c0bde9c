use Rattle.dsr_ledger.proofs.Common.{arith, common_steps, ◌≡◌, ◌<◌, [], ◌∷◌, take, get_or, sym, subst, Some, slice_get, take_more, slice_get-get_or, SeatShare, HasPart, HaveParts}
use Rattle.dsr_ledger.proofs.NumberedLemmas.{each_at}
use Rattle.dsr_ledger.proofs.PartLemmas.{parts_kept, parts_twice}
use Rattle.dsr_ledger.proofs.EachLemmas.{each_append}
use Rattle.dsr_ledger.proofs.ledger.parts.widen.Goals as goal

abbrev none : SeatShare
none = record { seat = 0; share = 0 }

pub returns-in_err-place-clause-below : goal.returns-in_err-place-clause-below
returns-in_err-place-clause-below c = λ n seats below.
    let i = c.loop-share.share-index in let s = get_or c.args.shares.now i none in
    let at : slice_get c.args.shares.now i ≡ Some s = slice_get-get_or c.args.shares.now i none c.loop-share-test.true in
    c.place.ensures.below n (each_at (λ (x : SeatShare). x.seat < n) c.args.shares.now i s seats at) (c.loop-share.invariant.below n seats below)

pub loop-share-preserved : goal.loop-share-preserved
loop-share-preserved c =
    let ss = c.args.shares.now in let i = c.loop-share.share-index in let s = get_or ss i none in
    let at : slice_get ss i ≡ Some s = slice_get-get_or ss i none c.loop-share-test.true in let was = c.loop-share.parts.items.items in
    let is = c.place.new.self.items.items in let grows = c.place.ensures.grows in let before = c.loop-share.invariant in
    let one : HasPart is s = record { place = c.in_ok-place.place; there = c.in_ok-place.ensures.there } in
    record {
      grows = parts_twice c.args.parts.now.items.items was is before.grows grows;
      below = λ n seats below. c.place.ensures.below n (each_at (λ (x : SeatShare). x.seat < n) ss i s seats at) (before.below n seats below);
      wide = subst (λ xs. HaveParts xs is) (sym (take_more ss i none c.loop-share-test.true)) (
          each_append (HasPart is) (take i ss) (s ∷ []) (parts_kept (take i ss) was is grows.places before.wide) (one, tt));
    }

pub invariant_of-parts : goal.invariant_of-parts
invariant_of-parts c = grind (arith, common_steps)

pub returns-clause-wide : goal.returns-clause-wide
returns-clause-wide c = grind (arith, common_steps)
