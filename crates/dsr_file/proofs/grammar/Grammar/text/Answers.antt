use Rattle.dsr_file.proofs.Common.{◌∙◌, ap, sym, found_by, file_fault, of_record}
use Rattle.dsr_file.proofs.TestLemmas.{of_utf8_skipped, of_utf8_record, faulty_steps, own_not_count}
use Rattle.dsr_file.proofs.grammar.Grammar.text.Goals as goal

pub returns-then-is_left_out-clause-steps : goal.returns-then-is_left_out-clause-steps
returns-then-is_left_out-clause-steps c =
    λ ls k. rw (of_utf8_skipped c.args.layout.now c.args.text.now (sym c.is_left_out.ensures ∙ c.if-is_left_out.true), c.requires.none)
    (c.skip_line.ensures.steps ls k)

pub returns-in-Err-clause-steps : goal.returns-in-Err-clause-steps
returns-in-Err-clause-steps c = λ ls k.
    rw (
      of_utf8_record c.args.layout.now c.args.text.now (found_by c.check_line.result) (sym c.is_left_out.ensures ∙ c.if-is_left_out.false) c.check_line.ensures
          ∙ ap (λ r. of_record (found_by r)) c.in-Err.is,
      c.file_fault.ensures,
      c.requires.none,
    )
    (faulty_steps c.args.self.now ls (file_fault c.in-Err.fault) (own_not_count c.in-Err.fault))

pub returns-in-Ok-clause-steps : goal.returns-in-Ok-clause-steps
returns-in-Ok-clause-steps c = λ ls k.
    rw (of_utf8_record c.args.layout.now c.args.text.now (found_by c.check_line.result) (sym c.is_left_out.ensures ∙ c.if-is_left_out.false) c.check_line.ensures
    ∙ ap (λ r. of_record (found_by r)) c.in-Ok.is) (c.checked.ensures.steps ls k)
