use Rattle.dsr_file.proofs.Common.{◌≡◌, ◌∙◌, ◌++◌, ap, sym, subst, arith, length-drop, err_from_is_err_and, option_to_list, event_at, Fed}
use Rattle.dsr_file.proofs.FeedLemmas.{prefix_part, part_run, fed_more, fed_all, fed_some}
use Rattle.dsr_file.proofs.feeding.feed.Goals as goal

pub returns-then-not-is_some-clause-fed : goal.returns-then-not-is_some-clause-fed
returns-then-not-is_some-clause-fed g c = λ layout b s.
    subst (λ es. Fed layout c.take_part-used.new.self b c.args.piece.now es) (sym c.note_bytes.ensures.list)
    (fed_all layout c.take_part-used.new.self b c.args.piece.now (g.S.Sink.list c.loop-sink.sink) c.loop-sink.used c.take_part-used.result
    c.loop-sink.file.place c.take_part-used.new.part c.loop-sink.invariant.bound c.take_part-used.ensures.bound
    (sym c.is_some.ensures ∙ c.if-not-is_some.true) (c.take_part-used.ensures.stands layout _ _ (c.loop-sink.invariant.stands layout b s))
    c.take_part-used.ensures.whole c.take_part-used.ensures.all)

pub exchange_into-requires-clause-run : goal.exchange_into-requires-clause-run
exchange_into-requires-clause-run g c =
    let k = c.requires.known in
    part_run k.0 c.take_part-used.new.self _ (g.S.Sink.list c.loop-sink.sink) c.loop-sink.file.place c.place-place.result c.take_part-used.new.part
    c.place-place.ensures.place c.take_part-used.ensures.begins (c.take_part-used.ensures.stands k.0 _ _ (c.loop-sink.invariant.stands k.0 k.1 k.2))

pub loop-sink-preserved-then-exchange_into : goal.loop-sink-preserved-then-exchange_into
loop-sink-preserved-then-exchange_into g c = record {
  bound = omega (arith, c.take_part-used.ensures.bound, c.loop-sink.invariant.bound, length-drop c.loop-sink.used c.args.piece.now);
  count = omega (arith, c.take_part-used.ensures.used, c.loop-sink.invariant.count);
  ending = c.take_part-used.ensures.«open»;
  none = c.exchange_into.ensures.none c.if-exchange_into.true;
  name = c.exchange_into.ensures.name ∙ c.loop-sink.invariant.name;
  grows =
      prefix_part (g.S.Sink.list c.args.sink.now) (g.S.Sink.list c.loop-sink.sink) (g.S.Sink.list c.exchange_into.new.sink) c.place-place.result
      c.take_part-used.new.part c.loop-sink.invariant.grows (c.exchange_into.ensures.added c.if-exchange_into.true);
  stands = λ layout b s.
      fed_more layout c.take_part-used.new.self b c.args.piece.now (g.S.Sink.list c.loop-sink.sink) (g.S.Sink.list c.exchange_into.new.sink)
      c.loop-sink.used c.take_part-used.result c.loop-sink.file.place c.place-place.result c.take_part-used.new.part c.loop-sink.invariant.bound
      c.place-place.ensures.place (c.exchange_into.ensures.added c.if-exchange_into.true)
      (c.take_part-used.ensures.stands layout _ _ (c.loop-sink.invariant.stands layout b s));
}

pub put_into-requires-clause-run : goal.put_into-requires-clause-run
put_into-requires-clause-run g c =
    let k = c.requires.known in
    let kept = c.exchange_into.ensures.kept c.if-exchange_into.false in
    rw (kept.0, kept.1)
    (part_run k.0 c.take_part-used.new.self _ (g.S.Sink.list c.loop-sink.sink) c.loop-sink.file.place c.place-place.result
    c.take_part-used.new.part c.place-place.ensures.place c.take_part-used.ensures.begins
    (c.take_part-used.ensures.stands k.0 _ _ (c.loop-sink.invariant.stands k.0 k.1 k.2)))

pub loop-sink-preserved : goal.loop-sink-preserved
loop-sink-preserved g c =
    let kept = c.exchange_into.ensures.kept c.if-exchange_into.false in
    let added : g.S.Sink.list c.put_into.new.sink ≡ g.S.Sink.list c.loop-sink.sink ++ option_to_list (event_at c.place-place.result c.take_part-used.new.part) =
    c.in_ok-put_into.ensures.added
    ∙ ap (λ part. g.S.Sink.list c.exchange_into.new.sink ++ option_to_list (event_at c.place-place.result part)) kept.0
    ∙ ap (λ es. es ++ option_to_list (event_at c.place-place.result c.take_part-used.new.part)) kept.1 in
    record {
      bound = omega (arith, c.take_part-used.ensures.bound, c.loop-sink.invariant.bound, length-drop c.loop-sink.used c.args.piece.now);
      count = omega (arith, c.take_part-used.ensures.used, c.loop-sink.invariant.count);
      ending = c.take_part-used.ensures.«open»;
      none = c.put_into.ensures.none;
      name = c.put_into.ensures.name ∙ c.exchange_into.ensures.name ∙ c.loop-sink.invariant.name;
      grows =
          prefix_part (g.S.Sink.list c.args.sink.now) (g.S.Sink.list c.loop-sink.sink) (g.S.Sink.list c.put_into.new.sink) c.place-place.result
          c.take_part-used.new.part c.loop-sink.invariant.grows added;
      stands = λ layout b s.
          fed_more layout c.take_part-used.new.self b c.args.piece.now (g.S.Sink.list c.loop-sink.sink) (g.S.Sink.list c.put_into.new.sink)
          c.loop-sink.used c.take_part-used.result c.loop-sink.file.place c.place-place.result c.take_part-used.new.part c.loop-sink.invariant.bound
          c.place-place.ensures.place added
          (c.take_part-used.ensures.stands layout _ _ (c.loop-sink.invariant.stands layout b s));
    }

pub returns-in_err-put_into-clause-refused : goal.returns-in_err-put_into-clause-refused
returns-in_err-put_into-clause-refused g c =
    let p = err_from_is_err_and c.from_residual.result c.from_residual.ensures.1 in
    let kept = c.exchange_into.ensures.kept c.if-exchange_into.false in
    let was = c.in_err-put_into.ensures.refused in
    rw (p.1, p.2) (λ layout b s.
    fed_some layout c.take_part-used.new.self b c.args.piece.now (g.S.Sink.list c.loop-sink.sink) (g.S.Sink.list c.put_into.new.sink)
    c.loop-sink.used c.take_part-used.result c.loop-sink.file.place c.place-place.result c.take_part-used.new.part c.in_err-put_into.field-0.0
    c.loop-sink.invariant.bound c.take_part-used.ensures.bound c.place-place.ensures.place
    (ap (event_at c.place-place.result) (sym kept.0) ∙ was.0, was.1 ∙ kept.1)
    (c.take_part-used.ensures.stands layout _ _ (c.loop-sink.invariant.stands layout b s)) c.take_part-used.ensures.begins)
