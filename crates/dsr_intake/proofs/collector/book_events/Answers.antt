use Rattle.dsr_intake.proofs.Common.{◌≡◌, ◌<◌, ◌^◌, true, [], ◌∷◌, ◌++◌, length, take, refl, ap, subst, ◌∙◌, arith, take_all, is_ended, orderly_front, orderly_next, is_clean_end, file_of, is_opening, with_part, Changes, TakesAll}
use Rattle.dsr_intake.proofs.Filing.{later_part, going, knows_more, follows_next, takes_none, takes_more}
use Rattle.dsr_intake.proofs.collector.book_events.Goals as goal

pub loop-event-init : goal.loop-event-init
loop-event-init c = record {
  files = refl;
  takes = λ taken f. takes_none c.args.books.now c.args.k taken f.running;
}

pub book_part-requires-clause-later : goal.book_part-requires-clause-later
book_part-requires-clause-later c =
    let r = c.requires.followed in
    let e = c.event-item.result in
    let i = c.loop-event.event-index in
    let next = follows_next r.0 c.args.events.now i e r.1 c.loop-event-test.true c.event-item.is in
    ap (λ e. is_opening e.part) c.event.view_is ∙ later_part (r.0 ++ take i c.args.events.now) e next.orderly next.some

pub book_part-requires-clause-file : goal.book_part-requires-clause-file
book_part-requires-clause-file c =
    let r = c.requires.followed in
    let e = c.event-item.result in
    let i = c.loop-event.event-index in
    let next = follows_next r.0 c.args.events.now i e r.1 c.loop-event-test.true c.event-item.is in
    let xs = r.0 ++ take i c.args.events.now in
    let place = ap (λ e. e.place) c.event.view_is ∙ orderly_next xs e [] next.orderly in
    let short : length xs < 2 ^ 37 = omega (arith, place, c.event.invariant) in (
      file_of xs,
      knows_more c.args.books.now c.loop-event.books c.args.k (file_of r.0) (file_of xs) r.2 (c.loop-event.invariant.takes r.0 r.1).0,
      going xs (orderly_front xs (e ∷ []) next.orderly) next.some next.running short,
    )

pub loop-event-preserved : goal.loop-event-preserved
loop-event-preserved c =
    let e = c.event-item.result in
    let i = c.loop-event.event-index in
    let did = c.in_ok-book_part.ensures in
    record {
      files = did.files ∙ c.loop-event.invariant.files;
      takes = λ taken f.
          let next = follows_next taken c.args.events.now i e f c.loop-event-test.true c.event-item.is in
          takes_more c.args.books.now c.loop-event.books c.book_part.new.books c.args.k taken c.args.events.now i e next
          (c.loop-event.invariant.takes taken f)
          (λ f. subst (λ p. Changes c.loop-event.books c.book_part.new.books c.args.k f (with_part f p)) (ap (λ e. e.part) c.event.view_is) (did.booked f))
          (subst (λ p. is_ended p ≡ true → is_clean_end p ≡ true) (ap (λ e. e.part) c.event.view_is) did.clean);
    }

pub returns-clause-booked : goal.returns-clause-booked
returns-clause-booked c = λ taken f.
    let all = take_all c.loop-event.event-index c.args.events.now (omega (arith, c.loop-event-test.false)) in
    subst (TakesAll c.args.books.now c.loop-event.books c.args.k taken) all (c.loop-event.invariant.takes taken f)
