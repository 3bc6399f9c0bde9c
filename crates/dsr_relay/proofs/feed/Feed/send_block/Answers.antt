use Rattle.dsr_relay.proofs.Common.{◌≡◌, ◌+◌, ◌≤◌, [], ◌∷◌, ◌++◌, length, sym, ap, ◌∙◌, subst, arith, append_assoc, length-append, rules, common_steps, view, block_event, IsOrderly, orderly_next, events_of, out_of, FeedView, batch_after, feed_view, sent_of}
use Rattle.dsr_relay.proofs.Sending.{sends_again, sent_out, batch_goes, full_goes}
use Rattle.dsr_relay.proofs.feed.Feed.send_block.Goals as goal

pub invariant_of-self-then-events-lt-MOST_EVENTS : goal.invariant_of-self-then-events-lt-MOST_EVENTS
invariant_of-self-then-events-lt-MOST_EVENTS g c =
    let f = c.self.inside in
    let e = block_event c.args.place c.args.block.now in
    let out = events_of (out_of (view f.pass)) in
    let asked : IsOrderly (sent_of f ++ e ∷ []) = subst (λ (v : FeedView). IsOrderly (v.sent ++ e ∷ [])) (sym c.self.view_is) c.requires.orderly in
    let added = c.put_block.ensures.added c.if-not-put_block.false in
    let same : out ++ c.put_block.new.batch ≡ sent_of f ++ e ∷ [] = ap (λ l. out ++ l) added ∙ sym (append_assoc out f.batch (e ∷ [])) in
    record {
      seat = c.self.invariant.seat;
      knows = c.self.invariant.knows;
      waits = omega (arith, ap length c.events.ensures, c.if-events-lt-MOST_EVENTS.true);
      orderly = subst IsOrderly (sym same) asked;
      count = omega (arith, orderly_next (sent_of f) e [] asked, ap length same, length-append (sent_of f) (e ∷ []));
    }

pub invariant_of-self-in_default : goal.invariant_of-self-in_default
invariant_of-self-in_default g c =
    let f = c.self.inside in
    let e = block_event c.args.place c.args.block.now in
    let out = events_of (out_of (view f.pass)) in
    let went = c.in_default.ensures.sent in
    let added = c.put_block.ensures.added c.if-not-put_block.false in
    let asked : IsOrderly (sent_of f ++ e ∷ []) = subst (λ (v : FeedView). IsOrderly (v.sent ++ e ∷ [])) (sym c.self.view_is) c.requires.orderly in
    let same =
    sent_out (view f.pass) (view c.send_out.new.pass) _ _ (f.batch ++ e ∷ []) c.send_out.new.batch went.0 added went.1
    ∙ sym (append_assoc out f.batch (e ∷ [])) in
    record {
      seat = c.send_out.ensures.seat;
      knows = sends_again _ _ _ went.0;
      waits = omega (arith, ap length went.1);
      orderly = subst IsOrderly (sym same) asked;
      count = omega (arith, orderly_next (sent_of f) e [] asked, ap length same, length-append (sent_of f) (e ∷ []));
    }

pub returns-in_default-clause-sent : goal.returns-in_default-clause-sent
returns-in_default-clause-sent g c = λ _.
    let f = c.self.inside in
    let e = block_event c.args.place c.args.block.now in
    let out = events_of (out_of (view f.pass)) in
    let went = c.in_default.ensures.sent in
    let added = c.put_block.ensures.added c.if-not-put_block.false in
    let same =
    sent_out (view f.pass) (view c.send_out.new.pass) _ _ (f.batch ++ e ∷ []) c.send_out.new.batch went.0 added went.1
    ∙ sym (append_assoc out f.batch (e ∷ [])) in
    let seat = c.send_out.ensures.seat in
    let was = c.self.invariant.seat in
    let full : 32 ≤ length (f.batch ++ e ∷ []) = omega (arith, ap length added, ap length c.events.ensures, c.if-events-lt-MOST_EVENTS.false) in
    let batch = went.1 ∙ sym (batch_goes f.batch e (full_goes f.batch c.args.place c.args.block.now full c.self.invariant.waits)) in
    let next : feed_view (record f { pass = c.send_out.new.pass; batch = c.send_out.new.batch; count = c.args.place + 1 })
    ≡ record (feed_view f) { sent = sent_of f ++ e ∷ []; batch = batch_after f.batch e } =
    λ i. record {
      name = record { of = record {}; table = (seat.0 ∙ sym was.0) i; key = (seat.1 ∙ sym was.1) i; capacity = (feed_view f).name.capacity };
      sent = same i;
      batch = batch i;
    } in
    next ∙ ap (λ (v : FeedView). record v { sent = v.sent ++ e ∷ []; batch = batch_after v.batch e }) c.self.view_is

pub invariant_of-self : goal.invariant_of-self
invariant_of-self g c = search rules

pub returns-then-not-put_block-clause-kept : goal.returns-then-not-put_block-clause-kept
returns-then-not-put_block-clause-kept g c = search rules

pub returns-clause-kept : goal.returns-clause-kept
returns-clause-kept g c = search rules

pub send_out-requires-clause-size : goal.send_out-requires-clause-size
send_out-requires-clause-size g c = grind (arith, common_steps)

pub send_out-requires-clause-orderly : goal.send_out-requires-clause-orderly
send_out-requires-clause-orderly g c = grind (arith, common_steps)
