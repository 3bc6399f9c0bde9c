use Rattle.dsr_file.proofs.Common.{◌≡◌, ◌∙◌, ap, refl, subst, IsUtf8, without_return, is_utf8-from_IsUtf8}
use Rattle.dsr_events.specs.declared.fault.FileFault.TheVariants.{NotUtf8}
use Rattle.dsr_file.proofs.TestLemmas.{reading_text, reading_garbled, faulty_steps, utf8_false, utf8_with_return}
use Rattle.dsr_file.proofs.grammar.Grammar.line.Goals as goal

pub returns-in-Some-clause-steps : goal.returns-in-Some-clause-steps
returns-in-Some-clause-steps c = λ ls k.
    let same : c.strip_return.result.now ≡ without_return c.args.line.now = c.strip_return.ensures ∙ ap without_return c.in-Some.ensures.0 in
    rw (reading_text c.args.layout.now c.args.line.now c.requires.short (is_utf8-from_IsUtf8 _ (subst IsUtf8 same c.strip_return.utf8)), ← same)
    (c.text.ensures.steps ls k)

pub returns-in-None-clause-steps : goal.returns-in-None-clause-steps
returns-in-None-clause-steps c = λ ls k.
    rw (
      reading_garbled c.args.layout.now c.args.line.now c.requires.short
          (utf8_false _ (λ u. c.in-None.ensures (utf8_with_return c.args.line.now u))),
      c.requires.none,
    ) (faulty_steps c.args.self.now ls NotUtf8 refl)
