use Rattle.dsr_records.proofs.Common.{arith, subst, ap, ◌∙◌, ◌≡◌, ◌+◌, ◌-◌, ◌∷◌, [], ◌++◌, slice_index, chunk, IsUtf8, IsLineOf}
use Rattle.dsr_records.proofs.UsualLines.{last_of_line}
use Rattle.dsr_records.proofs.usual.cells.Cells.last_text.Goals as goal

pub returns : goal.returns
returns c page front is =
    let s = c.args.self in
    let end = c.in_ok-end.end in
    let within = c.in_ok-end.ensures.within in
    let text = c.in_ok-text_to.ensures in
    let there : s.at + (end - s.at) ≡ end = omega (arith, within.0) in
    let feed : slice_index s.page.now end ≡ 10 = omega (arith, c.if-self-end-ne10.false) in
    let last =
    last_of_line s.page.now s.at (end - s.at) (omega (arith, within, s.behind)) c.in_ok-end.ensures.shown (subst IsUtf8 text.0 text.1) page front is
    (omega (arith, within, s.near)) (ap (λ k. slice_index s.page.now k) there ∙ feed) in
    rw text.0 (subst (λ k. IsLineOf page k (front ++ chunk s.at (end - s.at) s.page.now ∷ [])) there last)
