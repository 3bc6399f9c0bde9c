use Rattle.dsr_intake.proofs.Common.{◌≡◌, ◌∙◌, ap, false, true≢false, List, Result, Ok, Err, Option, Some, None, OnOk, IfOk, IfErr, MatchOption, is_ok, vec_len, FileText, Told, Options, GaveEach, report_of_texts}
use Rattle.dsr_intake.specs.declared.errors.RunError.{RunError}
use Rattle.dsr_intake.specs.declared.errors.RunError.TheVariants as error
use Rattle.dsr_statement.specs.declared.verdict.Status.{Status}
use Rattle.dsr_intake.specs.meaning.Texts.{refusal_of}
use Rattle.dsr_intake.specs.meaning.Outcomes.{IsReported, IsUnwritten}
use Rattle.dsr_statement.specs.meaning.Statement.{statement_of}
use Rattle.dsr_statement.specs.meaning.Status.{status_of}
use Rattle.dsr_io.specs.meaning.Written.{Written, IsFlushed}
use Rattle.dsr_intake.specs.inner.Collecting.{IsUnfinished}
use Rattle.dsr_intake.proofs.Rounds.{on_any}
use Rattle.dsr_intake.proofs.stages.run.Goals as goal

not_refused : {E : Type 0} (o : Option E) (A B : Type 0) (C D : E → Type 0) → MatchOption o A C → ((e : E) → C e → ⊥) → B → MatchOption o B D
not_refused None A B C D met never b = b
not_refused (Some e) A B C D met never b = absurd (never e met)

-- the result for the texts that the readers gave, by that for their report
module _ {R : Type 0} (told : R → Told) (options : Options) (readers left : List R) (before after : Written) (texts : List FileText)
    (given : GaveEach told options readers left texts) where
  reported : (result : Result Status RunError) → OnOk result (IsFlushed (statement_of (report_of_texts options.layout texts)) before after)
      → IfOk result (λ status. status ≡ status_of (report_of_texts options.layout texts)) → before.failed ≡ false
      → IfOk result (λ status. (texts : List FileText) × IsReported told options readers left before after texts status)
  reported (Ok status) written is sound =
      (texts, record { given = given; written = written; sound = written.sound ∙ sound; status_is = is })
  reported (Err e) written is sound = tt

  unwritten : (result : Result Status RunError) → IfErr result (IsUnfinished (report_of_texts options.layout texts) before after)
      → IfErr result (IsUnwritten told options readers left before after)
  unwritten (Ok status) h = tt
  unwritten (Err (error.Intake e)) h = h.1
  unwritten (Err error.Memory) h = (texts, given, h)
  unwritten (Err (error.Write n)) h = (texts, given, h.0, h.1)

pub returns-in-Ok-clause-reported : goal.returns-in-Ok-clause-reported
unfolding report_of_texts
returns-in-Ok-clause-reported g c =
    let p = c.in-Ok.ensures.books in
    let did = c.write_books-answer.ensures in
    reported g.R.Source.told c.args.options c.args.readers.now.items c.read_books-books.new.readers.items (g.W.Outlet.told c.args.out.now)
    (g.W.Outlet.told c.write_books-answer.new.out) p.0 p.1 c.write_books-answer.result (did.written _ p.2) (did.status _ p.2) c.requires.outlet

pub returns-in-Ok-clause-unwritten : goal.returns-in-Ok-clause-unwritten
unfolding report_of_texts
returns-in-Ok-clause-unwritten g c =
    let p = c.in-Ok.ensures.books in
    unwritten g.R.Source.told c.args.options c.args.readers.now.items c.read_books-books.new.readers.items (g.W.Outlet.told c.args.out.now)
    (g.W.Outlet.told c.write_books-answer.new.out) p.0 p.1 c.write_books-answer.result (c.write_books-answer.ensures.unfinished _ p.2)

pub returns-in-Ok-clause-refused : goal.returns-in-Ok-clause-refused
returns-in-Ok-clause-refused g c =
    not_refused (refusal_of (vec_len c.args.readers.now) c.args.options) _ _ _ _ c.in-Ok.ensures.refused (λ e r. true≢false (ap is_ok r.0))
    c.write_books-answer.ensures.late

pub returns-in-Ok-clause-held : goal.returns-in-Ok-clause-held
returns-in-Ok-clause-held g c = on_any c.write_books-answer.result c.in-Ok.ensures.held
