use Rattle.std.proofs.Common.{◌≡◌, false}
use Rattle.dsr.proofs.Answering.{answer_within, of_each, without_memory}
use Rattle.dsr.proofs.running.run_inputs.Goals as goal

pub run_sources-answer-requires-clause-sources : goal.run_sources-answer-requires-clause-sources
run_sources-answer-requires-clause-sources g c κs within =
    of_each (λ r. (g.R.Source.told r).failed ≡ false) (λ w. w.source) c.in-Ok.watched.items (rw c.in-Ok.ensures c.requires.sources)

pub returns-in-Ok : goal.returns-in-Ok
returns-in-Ok g c =
    let run = c.run_sources-answer in
    answer_within g.R.Source.told (λ w. w.source) c.args.reading.options.value c.args.reading.seal c.args.reading.inputs.items c.in-Ok.watched.items
    (g.O.Outlet.told c.args.out) (g.O.Outlet.told run.result.0) run.result.1 c.in-Ok.ensures run.ensures

pub returns-in-Err : goal.returns-in-Err
returns-in-Err g c =
    let reading = c.args.reading in
    (reading.inputs.items, without_memory g.R.Source.told reading.options.value reading.seal reading.inputs.items (g.O.Outlet.told c.args.out))
