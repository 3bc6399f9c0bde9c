use Rattle.dsr_file.proofs.Common.{◌++◌, ◌∷◌, [], None, refl, ap, subst, sym, option_to_list, EndsAfter, Stands, placed}
use Rattle.dsr_events.specs.declared.fault.Outcome.TheVariants.{Fault}
use Rattle.dsr_file.proofs.StandLemmas.{good_stands, faulty_stands, memory_stands, again}
use Rattle.dsr_file.proofs.reader.FileReader.answer_apart.Goals as goal

pub returns-in-Good-clause-stands : goal.returns-in-Good-clause-stands
returns-in-Good-clause-stands c = λ layout b es a.
    good_stands layout c.args.self.now c.good.new.self c.args.line c.args.step c.args.part.now b es c.in-Good.is a c.good.ensures.rest c.good.ensures.place
    c.requires.reading

pub returns-in-Faulty-clause-stands : goal.returns-in-Faulty-clause-stands
returns-in-Faulty-clause-stands c = λ layout b es a.
    let new = c.end_after-event.new.self in
    let gives = subst (λ x. EndsAfter c.args.self.now.place x (Fault c.args.line c.in-Faulty.fault) c.end_after-event.result new)
    c.take.ensures.value c.end_after-event.ensures.gives in
    subst (λ o. Stands layout new b (es ++ placed c.args.self.now.place (option_to_list o))) (sym c.set.ensures)
    (subst (λ e. Stands layout new b (es ++ e ∷ [])) (sym (again c.args.self.now.place _ c.end_after-event.result _ c.event.view_is (ap (λ x. x.place) gives.1)))
    (faulty_stands layout c.args.self.now new None c.args.line c.args.step c.in-Faulty.fault c.args.part.now b es c.end_after-event.result
    c.in-Faulty.is a.0 gives c.end_after-event.ensures.same c.end_after-event.ensures.place))

pub returns-in-NoMemory-clause-stands : goal.returns-in-NoMemory-clause-stands
returns-in-NoMemory-clause-stands c = λ layout b es a.
    let end = c.close_with.ensures in
    subst (λ o. Stands layout c.close_with.new.self b (es ++ placed c.args.self.now.place (option_to_list o))) (sym end.part)
    (memory_stands layout c.args.self.now c.close_with.new.self None c.args.line c.args.step c.args.part.now b es _ c.in-NoMemory.is a.0
    refl end.done end.same end.place)
