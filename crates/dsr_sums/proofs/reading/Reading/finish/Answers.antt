use Rattle.std.proofs.Common.{sym, ◌∙◌}
use Rattle.std.specs.Prelude.{reverse}
use Rattle.dsr_sums.proofs.ReadingLemmas.{finishes}
use Rattle.dsr_sums.proofs.reading.Reading.finish.Goals as goal

pub returns-in-Some : goal.returns-in-Some
returns-in-Some c = λ done reads.
    finishes c.args.unsealed c.args.self done c.args.rest.now c.args.failed c.in-Some.key c.remark-remark.result reads
    (c.in_default.ensures (reverse done) reads.after)
    (sym (c.is_taken.ensures (reverse done) reads.after) ∙ c.if-not-is_taken.false) c.in-Some.is (c.remark-remark.ensures (reverse done) reads.after)
