use Rattle.std.proofs.Common.{◌≡◌, length, rules, subst}
use Rattle.std.specs.Prelude.{IfErr, MatchOption, vec_len}
use Rattle.dsr_intake.specs.meaning.Outcomes.{IsLateRun}
use Rattle.dsr_intake.specs.meaning.Texts.{refusal_of}
use Rattle.dsr.specs.Serving.{IsRefusedFor}
use Rattle.dsr.proofs.Answering.{refused_by}
use Rattle.dsr.proofs.running.run_plain.Goals as goal

pub returns : goal.returns
returns g c =
    let sources = c.args.sources in
    let len : vec_len sources ≡ length sources.items = search rules in (
      c.run-answer.new.readers.items,
      record {
        reported = rw c.into_inner.ensures at c.run-answer.ensures.reported;
        unwritten = rw c.into_inner.ensures at c.run-answer.ensures.unwritten;
        refused = subst (λ n. MatchOption (refusal_of n c.args.options.value) (IfErr c.run-answer.result IsLateRun) (IsRefusedFor c.run-answer.result)) len
            (refused_by _ _ _ (rw c.into_inner.ensures at c.run-answer.ensures.refused));
      },
    )
