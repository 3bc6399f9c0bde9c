use Rattle.std.proofs.Common.{false, ◌≡◌}
use Rattle.std.specs.Prelude.{Some}
use Rattle.dsr.proofs.Answering.{answer_within, of_each, without_memory}
use Rattle.dsr.proofs.Seals.{answer_out}
use Rattle.dsr.proofs.sealing.run_sealed.Goals as goal

pub write_sealed-answer-requires-clause-sources : goal.write_sealed-answer-requires-clause-sources
write_sealed-answer-requires-clause-sources g c κs within =
    of_each (λ r. (g.R.Source.told r).failed ≡ false) (λ d. d.source) c.in-Ok-digesting.sources.items
    (rw c.in-Ok-digesting.ensures.sources c.requires.sources)

pub returns : goal.returns
returns g c =
    let told = g.R.Source.told in
    let o = c.args.options.value in
    let made = c.in-Ok-digesting.sources.items in
    let wrote = rw c.new-out.ensures at c.write_sealed-answer.ensures in
    answer_within told (λ d. d.source) o (Some c.args.seal) c.args.sources.items made (g.O.Outlet.told c.args.out) (g.O.Outlet.told c.into_outlet.result)
    c.write_sealed-answer.result c.in-Ok-digesting.ensures.sources
    (wrote.0, answer_out _ o c.args.seal made wrote.0 _ _ _ c.write_sealed-answer.result c.into_outlet.ensures wrote.1)
