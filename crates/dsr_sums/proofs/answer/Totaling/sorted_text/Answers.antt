use Rattle.std.proofs.Common.{◌∙◌}
use Rattle.dsr_sums.specs.meaning.Statements.{booked_lines}
use Rattle.dsr_sums.proofs.TotalingLemmas.{text_is}
use Rattle.dsr_sums.proofs.answer.Totaling.sorted_text.Goals as goal

pub returns : goal.returns
returns c = λ ss held whole.
    c.in_ok-text.ensures
    ∙ text_is c.sort.new.self c.deref.result.now ss (c.in_ok-sort.ensures (booked_lines ss) held.lines whole) (c.deref.ensures.value ∙ held.reports)
