use Rattle.dsr_file.proofs.Common.{◌≡◌, ◌∙◌, ◌++◌, [], ◌+◌, take, None, sym, ap, subst, arith, length-drop, IfNone, option_to_list, append-nil, Stands, placed}
use Rattle.dsr_file.specs.declared.phase.Phase.TheVariants.{Reading}
use Rattle.dsr_file.proofs.StandLemmas.{stands_more}
use Rattle.dsr_file.proofs.ClosedLemmas.{not_some}
use Rattle.dsr_file.proofs.reader.FileReader.read.Goals as goal

pub returns-then-is_some-clause-stands : goal.returns-then-is_some-clause-stands
returns-then-is_some-clause-stands c = λ layout b es s.
    stands_more layout c.step-used.new.self b c.args.piece.now es c.loop-used.used c.step-used.result _ _ c.loop-used.invariant.bound
    (ap (λ n. placed n (option_to_list c.step-used.new.part)) c.loop-used.invariant.place)
    (c.step-used.ensures.stands layout _ es (c.loop-used.invariant.stands layout b es s))

pub loop-used-preserved : goal.loop-used-preserved
loop-used-preserved c =
    let none : c.step-used.new.part ≡ None = not_some c.step-used.new.part (sym c.is_some.ensures ∙ c.if-is_some.false) in
    record {
      bound = omega (arith, c.step-used.ensures.bound, c.loop-used.invariant.bound, length-drop c.loop-used.used c.args.piece.now);
      reading = subst (λ o. IfNone o (c.step-used.new.self.phase ≡ Reading)) none c.step-used.ensures.reading;
      none = none;
      given = omega (arith, c.step-used.ensures.given, c.loop-used.invariant.given);
      place = subst (λ o. IfNone o (c.step-used.new.self.place ≡ c.loop-used.self.place)) none c.step-used.ensures.place ∙ c.loop-used.invariant.place;
      ending = c.step-used.ensures.ending ∙ c.loop-used.invariant.ending;
      stands = λ layout b es s.
          subst (λ x. Stands layout c.step-used.new.self (b ++ take (c.loop-used.used + c.step-used.result) c.args.piece.now) x) (append-nil es)
          (stands_more layout c.step-used.new.self b c.args.piece.now es c.loop-used.used c.step-used.result _ [] c.loop-used.invariant.bound
          (ap (λ o. placed c.loop-used.self.place (option_to_list o)) none)
          (c.step-used.ensures.stands layout _ es (c.loop-used.invariant.stands layout b es s)));
    }
