use Rattle.dsr_records.proofs.Common.{arith, subst, ap, ◌∙◌, ◌≡◌, ◌+◌, ◌-◌, ◌∷◌, [], ◌++◌, slice_index, chunk, IsUtf8, IsFront}
use Rattle.dsr_records.proofs.UsualLines.{next_front}
use Rattle.dsr_records.proofs.usual.cells.Cells.next_text.Goals as goal

pub returns : goal.returns
returns c page front is =
    let s = c.args.self in
    let end = c.in_ok-end.end in
    let within = c.in_ok-end.ensures.within in
    let text = c.in_ok-text_to.ensures in
    let there : s.at + (end - s.at) ≡ end = omega (arith, within.0) in
    let tab : slice_index s.page.now end ≡ 9 = omega (arith, c.if-self-end-ne9.false) in
    let next =
    next_front s.page.now s.at (end - s.at) (omega (arith, within, s.behind)) c.in_ok-end.ensures.shown (subst IsUtf8 text.0 text.1) page front is
    (ap (λ k. slice_index s.page.now k) there ∙ tab) in
    rw (c.behind.ensures.page, c.behind.ensures.at, text.0)
    (subst (λ k. IsFront page s.page.now (k + 1) (front ++ chunk s.at (end - s.at) s.page.now ∷ [])) there next)
