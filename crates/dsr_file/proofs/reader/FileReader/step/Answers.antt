use Rattle.dsr_file.proofs.Common.{◌∙◌, ap, refl, subst, take, arith, length-append, length-take, record_seen, record_of, StandsAt}
use Rattle.dsr_file.proofs.UsualLemmas.{usual_taken}
use Rattle.dsr_file.proofs.reader.FileReader.step.Goals as goal

pub returns-in-Some-clause-stands : goal.returns-in-Some-clause-stands
returns-in-Some-clause-stands c = λ layout b es s.
    let between = c.is_between_lines.ensures c.if-is_between_lines.true in
    c.answer.ensures.stands layout _ es
    (usual_taken c.args.piece.now c.in-Some.size c.in-Some.ensures.line layout c.args.self.now _ b es (record_seen c.in-Some.line) c.checked-step.result _ s
    c.requires.reading between
    (ap (λ x. record_of x (take c.in-Some.size c.args.piece.now)) (c.is_standard.ensures c.if-is_standard.true) ∙ c.in-Some.ensures.record)
    c.checked-step.ensures.steps between refl refl refl refl)

pub returns-clause-stands : goal.returns-clause-stands
returns-clause-stands c = λ layout b es s.
    let at = subst (λ x. StandsAt layout x c.args.self.now b es) c.requires.reading s.phase_is in
    c.cut.ensures.stands layout b es (
      at.0,
      c.take-used.ensures.cut b at.0 at.1,
      (
        at.2.0,
        at.2.1,
        at.2.2,
        (
          s.at.0,
          simp (length-append, length-take) (omega (arith, s.at.1, c.take-used.ensures.bound)),
          s.at.2,
        ),
      ),
    )
