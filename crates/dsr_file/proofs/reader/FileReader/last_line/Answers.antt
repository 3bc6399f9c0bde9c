use Rattle.dsr_file.proofs.Common.{Some, refl}
use Rattle.dsr_events.specs.declared.fault.Ending.TheVariants.{Whole}
use Rattle.dsr_file.proofs.StandLemmas.{faulty_stands, memory_stands}
use Rattle.dsr_file.proofs.EndLemmas.{good_last, last_taken}
use Rattle.dsr_file.proofs.reader.FileReader.last_line.Goals as goal

pub returns-in-Good-clause-stands : goal.returns-in-Good-clause-stands
returns-in-Good-clause-stands c = λ layout b es a.
    good_last layout _ c.end_after.new.self _ c.last_line-step.result.0 c.last_line-step.result.1 b es c.outcome-outcome.result c.end_after.result c.in-Good.is
    (last_taken layout c.args.self.now _ b es _ _ _ a c.requires.some c.line.ensures.value c.last_line-step.ensures.steps refl refl refl refl)
    c.outcome-outcome.ensures c.end_after.ensures.gives c.end_after.ensures.same c.end_after.ensures.place

pub returns-in-Faulty-clause-stands : goal.returns-in-Faulty-clause-stands
returns-in-Faulty-clause-stands c = λ layout b es a.
    let end = c.end_after-in-Faulty.ensures in
    faulty_stands layout _ c.end_after-in-Faulty.new.self (Some Whole) _ c.last_line-step.result.0 c.in-Faulty.fault c.last_line-step.result.1 b es
    c.end_after-in-Faulty.result c.in-Faulty.is
    (last_taken layout c.args.self.now _ b es _ _ _ a c.requires.some c.line.ensures.value c.last_line-step.ensures.steps refl refl refl refl)
    end.gives end.same end.place

pub returns-in-NoMemory-clause-stands : goal.returns-in-NoMemory-clause-stands
returns-in-NoMemory-clause-stands c = λ layout b es a.
    let end = c.end.ensures in
    memory_stands layout _ c.end.new.self (Some Whole) _ c.last_line-step.result.0 c.last_line-step.result.1 b es c.end.result c.in-NoMemory.is
    (last_taken layout c.args.self.now _ b es _ _ _ a c.requires.some c.line.ensures.value c.last_line-step.ensures.steps refl refl refl refl)
    end.event end.done end.same end.place
