use Rattle.dsr_file.proofs.Common.{◌++◌, subst, sym, List, option_to_list, CutSteps, FitsCut, Keeps, LineSteps, Stands, Reading, reading, placed}
use Rattle.dsr_file.proofs.StandLemmas.{line_read, long_stands}
use Rattle.dsr_file.proofs.reader.FileReader.cut.Goals as goal

pub returns-in-Kept-clause-stands : goal.returns-in-Kept-clause-stands
returns-in-Kept-clause-stands c = λ layout b es a.
    c.answer.ensures.stands layout _ es
    (line_read layout c.args.self.now _ a.0 c.args.self.now.cutter.bytes.items _ _ es c.line-step.result _
    (subst (λ x. CutSteps b c.args.used.now a.0 x c.args.self.now.cutter) c.in-Kept.is a.1) a.2
    (subst (λ x. (ls : List Reading) → Keeps c.args.self.now.grammar ls
    → LineSteps ls (reading c.args.self.now.layout x) c.line-step.result c.line-step.new.closed c.line-step.new.self) c.line.ensures.value
    c.line-step.ensures.steps) (c.clear.ensures.bytes, c.clear.ensures.fresh) a.2.3 a.2.2)

pub returns-in-Here-clause-stands : goal.returns-in-Here-clause-stands
returns-in-Here-clause-stands c = λ layout b es a.
    let fits = subst (λ x. FitsCut x c.args.used.now c.args.self.now.cutter) c.in-Here.is c.requires.here in
    c.answer-in-Here.ensures.stands layout _ es
    (line_read layout c.args.self.now _ a.0 _ _ _ es c.line-step-in-Here.result _
    (subst (λ x. CutSteps b c.args.used.now a.0 x c.args.self.now.cutter) c.in-Here.is a.1) a.2 c.line-step-in-Here.ensures.steps
    (fits.1, fits.2) a.2.3 a.2.2)

pub returns-in-Long-clause-stands : goal.returns-in-Long-clause-stands
returns-in-Long-clause-stands c = λ layout b es a.
    let end = c.close_with.ensures in
    subst (λ o. Stands layout c.close_with.new.self (b ++ c.args.used.now) (es ++ placed c.args.self.now.place (option_to_list o))) (sym end.part)
    (long_stands layout c.args.self.now c.close_with.new.self c.args.cut b c.args.used.now es c.in-Long.is a end.done end.same end.place)
