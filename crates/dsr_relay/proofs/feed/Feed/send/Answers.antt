use Rattle.dsr_relay.proofs.Common.{◌≡◌, ◌+◌, [], ◌∷◌, ◌++◌, length, sym, ap, ◌∙◌, subst, arith, append_assoc, length-append, common_steps, view, Placed, IsOrderly, orderly_next, events_of, out_of, FeedView, batch_after, feed_view, sent_of}
use Rattle.dsr_relay.proofs.Sending.{sends_again, sent_out, has_room, batch_goes}
use Rattle.dsr_relay.proofs.feed.Feed.send.Goals as goal

pub invariant_of-self-then-not-goes_out : goal.invariant_of-self-then-not-goes_out
invariant_of-self-then-not-goes_out g c =
    let f = c.self.inside in
    let e = c.args.event in
    let out = events_of (out_of (view f.pass)) in
    let asked : IsOrderly (sent_of f ++ e ∷ []) = subst (λ (v : FeedView). IsOrderly (v.sent ++ e ∷ [])) (sym c.self.view_is) c.requires in
    let same : out ++ c.put.new.batch ≡ sent_of f ++ e ∷ [] = ap (λ l. out ++ l) c.in_ok-put.ensures ∙ sym (append_assoc out f.batch (e ∷ [])) in
    record {
      seat = c.self.invariant.seat;
      knows = c.self.invariant.knows;
      waits =
          omega (
            arith,
            ap length c.in_ok-put.ensures,
            length-append f.batch (e ∷ []),
            has_room f.batch e
                (sym c.goes_out-goes_out.ensures ∙ c.if-not-goes_out.true) c.self.invariant.waits,
          );
      orderly = subst IsOrderly (sym same) asked;
      count =
          omega (arith, ap (λ (v : Placed). v.place) c.event.view_is, orderly_next (sent_of f) e [] asked, ap length same, length-append (sent_of f) (e ∷ []));
    }

pub invariant_of-self-in_default : goal.invariant_of-self-in_default
invariant_of-self-in_default g c =
    let f = c.self.inside in
    let e = c.args.event in
    let out = events_of (out_of (view f.pass)) in
    let went = c.in_default.ensures.sent in
    let asked : IsOrderly (sent_of f ++ e ∷ []) = subst (λ (v : FeedView). IsOrderly (v.sent ++ e ∷ [])) (sym c.self.view_is) c.requires in
    let same =
    sent_out (view f.pass) (view c.send_out.new.pass) _ _ (f.batch ++ e ∷ []) c.send_out.new.batch went.0 c.in_ok-put.ensures went.1
    ∙ sym (append_assoc out f.batch (e ∷ [])) in
    record {
      seat = c.send_out.ensures.seat;
      knows = sends_again _ _ _ went.0;
      waits = omega (arith, ap length went.1);
      orderly = subst IsOrderly (sym same) asked;
      count =
          omega (arith, ap (λ (v : Placed). v.place) c.event.view_is, orderly_next (sent_of f) e [] asked, ap length same, length-append (sent_of f) (e ∷ []));
    }

pub returns-in_default-clause-sent : goal.returns-in_default-clause-sent
returns-in_default-clause-sent g c =
    let f = c.self.inside in
    let e = c.args.event in
    let out = events_of (out_of (view f.pass)) in
    let went = c.in_default.ensures.sent in
    let same =
    sent_out (view f.pass) (view c.send_out.new.pass) _ _ (f.batch ++ e ∷ []) c.send_out.new.batch went.0 c.in_ok-put.ensures went.1
    ∙ sym (append_assoc out f.batch (e ∷ [])) in
    let seat = c.send_out.ensures.seat in
    let was = c.self.invariant.seat in
    let batch = went.1 ∙ sym (batch_goes f.batch e (sym c.goes_out-goes_out.ensures ∙ c.if-not-goes_out.false)) in
    let next : feed_view (record f { pass = c.send_out.new.pass; batch = c.send_out.new.batch; count = c.event.inside.place + 1 })
    ≡ record (feed_view f) { sent = sent_of f ++ e ∷ []; batch = batch_after f.batch e } =
    λ i. record {
      name = record { of = record {}; table = (seat.0 ∙ sym was.0) i; key = (seat.1 ∙ sym was.1) i; capacity = (feed_view f).name.capacity };
      sent = same i;
      batch = batch i;
    } in
    next ∙ ap (λ (v : FeedView). record v { sent = v.sent ++ e ∷ []; batch = batch_after v.batch e }) c.self.view_is

pub invariant_of-self-2 : goal.invariant_of-self-2
invariant_of-self-2 g c = grind (arith, common_steps)

pub returns-clause-refused : goal.returns-clause-refused
returns-clause-refused g c = grind (arith, common_steps)

pub returns-then-not-goes_out-clause-sent : goal.returns-then-not-goes_out-clause-sent
returns-then-not-goes_out-clause-sent g c = grind (arith, common_steps)

pub send_out-requires-clause-size : goal.send_out-requires-clause-size
send_out-requires-clause-size g c = grind (arith, common_steps)

pub send_out-requires-clause-orderly : goal.send_out-requires-clause-orderly
send_out-requires-clause-orderly g c = grind (arith, common_steps)

pub unreachable-requires : goal.unreachable-requires
unreachable-requires g c = grind (arith, common_steps)
