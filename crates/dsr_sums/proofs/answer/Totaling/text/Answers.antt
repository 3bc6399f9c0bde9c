use Rattle.std.proofs.Common.{ap, sym, ◌∙◌, cond, Ok, Err}
use Rattle.dsr_sums.specs.declared.answer.TotalsError.TheVariants.{OutOfRange}
use Rattle.dsr_sums.specs.meaning.Statements.{booked_lines, totals_text}
use Rattle.dsr_sums.proofs.answer.Totaling.text.Goals as goal

pub returns-in-Ok : goal.returns-in-Ok
returns-in-Ok c = λ ss held.
    let whole = sym (c.are_in_range.ensures (booked_lines ss) held.lines) ∙ c.if-not-are_in_range.false in
    ap (λ b. cond b (Ok (totals_text ss)) (Err OutOfRange)) whole ∙ ap Ok (sym (c.in-Ok.ensures ss held whole))
