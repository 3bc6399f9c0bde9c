use Rattle.dsr_intake.proofs.Common.{ap, ◌∙◌, subst, GaveEach}
use Rattle.dsr_intake.specs.meaning.Texts.{HoldEach}
use Rattle.dsr_ledger.specs.inner.BooksWords.{AreClosed}
use Rattle.dsr_intake.proofs.Joining.{files_of}
use Rattle.dsr_intake.proofs.gather.gather.Goals as goal

pub returns-in-Ok-clause-books : goal.returns-in-Ok-clause-books
returns-in-Ok-clause-books g c =
    let s = c.settle_all.ensures.texts in
    let options = c.args.options.now in
    let given = c.in-Ok.ensures.readers ∙ ap (λ v. v.items) c.replace-given.ensures.value in (
      s.0,
      subst (λ rs. GaveEach g.R.Source.told options rs c.settle_all.new.readers.items s.0) given s.1,
      subst (AreClosed c.in-Ok.books) (files_of options.layout _ s.0 s.2) c.in-Ok.ensures.books,
    )

pub returns-in-Ok-clause-held : goal.returns-in-Ok-clause-held
returns-in-Ok-clause-held g c =
    let given = c.in-Ok.ensures.readers ∙ ap (λ v. v.items) c.replace-given.ensures.value in
    subst (λ rs. HoldEach g.R.Source.told g.R.Source.holds rs c.settle_all.new.readers.items) given c.settle_all.ensures.held
