use Rattle.dsr_intake.proofs.Common.{◌≡◌, [], ◌∷◌, ◌++◌, refl, ap, sym, subst, ◌∙◌, IsOrderly, MayStandAt, file_of, Opens, first_file}
use Rattle.dsr_intake.proofs.Rounds.{file_first}
use Rattle.dsr_intake.proofs.collector.open_one.Goals as goal

pub returns-in-Ok-open_part-clause-opened : goal.returns-in-Ok-open_part-clause-opened
returns-in-Ok-open_part-clause-opened g c =
    let grown : c.take.new.self.taken ≡ c.in-Ok.event ∷ [] = ap (λ u. u.taken) c.in-Ok.ensures.taken ∙ ap (λ l. l ++ c.in-Ok.event ∷ []) c.requires.fresh in
    let first = (subst IsOrderly grown c.in-Ok.ensures.orderly).parts 0 c.in-Ok.event refl in
    let same = ap (λ e. first_file e.part) c.event.view_is ∙ sym (file_first c.in-Ok.event first) ∙ ap file_of (sym grown) in
    subst (Opens c.args.books.now c.open_part.new.books c.args.k) same c.in-Ok-open_part.ensures.opened

pub open_part-requires-clause-first : goal.open_part-requires-clause-first
open_part-requires-clause-first g c =
    let grown : c.take.new.self.taken ≡ c.in-Ok.event ∷ [] = ap (λ u. u.taken) c.in-Ok.ensures.taken ∙ ap (λ l. l ++ c.in-Ok.event ∷ []) c.requires.fresh in
    subst (λ e. MayStandAt 0 e.part) (sym c.event.view_is) ((subst IsOrderly grown c.in-Ok.ensures.orderly).parts 0 c.in-Ok.event refl)
