use Rattle.dsr_file.proofs.Common.{Some, err_from_is_err_and, first_ending}
use Rattle.dsr_file.proofs.FeedLemmas.{event_run, end_some}
use Rattle.dsr_file.proofs.feeding.finish_all.Goals as goal

pub put-requires : goal.put-requires
put-requires g c =
    let k = c.requires.known in
    event_run k.0 c.finish.new.self k.1 (Some (first_ending c.loop-event.file c.args.ending))
    (g.S.Sink.list c.loop-event.sink) c.finish.result c.in-Some.event c.in-Some.is c.finish.ensures.begins
    (c.finish.ensures.stands k.0 k.1 _ (c.loop-event.invariant.stands k.0 k.1 k.2))

pub returns-in_err-put-in-Some-clause-refused : goal.returns-in_err-put-in-Some-clause-refused
returns-in_err-put-in-Some-clause-refused g c =
    let p = err_from_is_err_and c.from_residual.result c.from_residual.ensures.1 in
    rw (p.1, p.2) (λ layout b s.
    end_some layout c.finish.new.self b (first_ending c.loop-event.file c.args.ending) c.args.ending (g.S.Sink.list c.loop-event.sink)
    (g.S.Sink.list c.put.new.self) c.finish.result c.in_err-put-in-Some.field-0.0 c.in-Some.event c.loop-event.invariant.ending c.in-Some.is
    c.in_err-put-in-Some.ensures.refused c.finish.ensures.begins (c.finish.ensures.stands layout b _ (c.loop-event.invariant.stands layout b s)))
