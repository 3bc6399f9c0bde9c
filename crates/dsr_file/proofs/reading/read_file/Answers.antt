use Rattle.dsr_file.proofs.Common.{subst, sym, [], Stands}
use Rattle.dsr_file.proofs.ResultLemmas.{if_given, if_refused}
use Rattle.dsr_file.proofs.HoldLemmas.{holds_self}
use Rattle.dsr_file.proofs.reading.read_file.Goals as goal

pub returns-clause-outcome : goal.returns-clause-outcome
returns-clause-outcome g c =
    let stands = subst (λ es. Stands c.args.layout.now c.in-Ok.file [] es) (sym c.requires.empty) c.in-Ok.ensures.stands in
    rw c.error_of.ensures (if_given c.read_all-answer.result _ _ (λ o all. (all c.args.layout.now stands).0) c.read_all-answer.ensures.read)

pub returns-clause-read : goal.returns-clause-read
returns-clause-read g c =
    let stands = subst (λ es. Stands c.args.layout.now c.in-Ok.file [] es) (sym c.requires.empty) c.in-Ok.ensures.stands in
    rw c.error_of.ensures (if_given c.read_all-answer.result _ _ (λ o all. (all c.args.layout.now stands).1) c.read_all-answer.ensures.read)

pub returns-clause-refused : goal.returns-clause-refused
returns-clause-refused g c =
    let stands = subst (λ es. Stands c.args.layout.now c.in-Ok.file [] es) (sym c.requires.empty) c.in-Ok.ensures.stands in
    rw c.error_of.ensures (if_refused c.read_all-answer.result _ _ (λ e told. told c.args.layout.now stands) c.read_all-answer.ensures.refused)

pub returns-in_default-clause-held : goal.returns-in_default-clause-held
returns-in_default-clause-held g c = holds_self g.R.Source.told g.R.Source.holds c.args.reader.now
