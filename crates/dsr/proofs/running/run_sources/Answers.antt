use Rattle.std.proofs.Common.{subst, sym}
use Rattle.dsr.specs.Serving.{IsAnswerFor}
use Rattle.dsr.proofs.running.run_sources.Goals as goal

pub returns-in-Some : goal.returns-in-Some
returns-in-Some g c =
    let run = c.run_sealed in
    let o = c.args.options.value in (
      run.ensures.0,
      subst (λ seal. IsAnswerFor g.R.Source.told o seal c.args.sources.items run.ensures.0 (g.O.Outlet.told c.args.out) (g.O.Outlet.told run.result.0)
          run.result.1) (sym c.in-Some.is) run.ensures.1,
    )

pub returns-in-None : goal.returns-in-None
returns-in-None g c =
    let run = c.run_plain in
    let o = c.args.options.value in (
      run.ensures.0,
      subst (λ seal. IsAnswerFor g.R.Source.told o seal c.args.sources.items run.ensures.0 (g.O.Outlet.told c.args.out) (g.O.Outlet.told run.result.0)
          run.result.1) (sym c.in-None.is) run.ensures.1,
    )
