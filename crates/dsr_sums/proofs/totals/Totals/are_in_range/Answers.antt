use Rattle.std.proofs.Common.{◌∙◌, ◌&&◌, ap}
use Rattle.dsr_sums.specs.meaning.Totals.{are_in_range}
use Rattle.dsr_sums.proofs.totals.Totals.are_in_range.Goals as goal

pub returns : goal.returns
unfolding are_in_range
returns c = λ bs held.
    c.both-2.ensures ∙ ap (λ b. c.args.self.now.currencies.in_range && b) c.both.ensures
    ∙ (λ i. held.currencies.range i && (held.markets.range i && held.parties.range i))
