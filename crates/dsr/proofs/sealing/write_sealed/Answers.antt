use Rattle.std.proofs.Common.{◌≡◌, ◌≤◌, ◌∙◌, inl, length, rules, subst, sym}
use Rattle.std.specs.Prelude.{Err, IfErr, MatchOption, vec_capacity, vec_len}
use Rattle.dsr_intake.specs.meaning.Outcomes.{IsLateRun}
use Rattle.dsr_intake.specs.meaning.Texts.{refusal_of}
use Rattle.dsr.proofs.Answering.{refused_by}
use Rattle.dsr.proofs.Digests.{keeps_digest, same_count}
use Rattle.dsr.proofs.Seals.{answered}
use Rattle.dsr.specs.Serving.{IsRefusedFor}
use Rattle.dsr.proofs.sealing.write_sealed.Goals as goal

pub digests_of-requires-clause-room : goal.digests_of-requires-clause-room
digests_of-requires-clause-room g c =
    let after = c.run.new.readers in
    let held = rw c.in-Ok.is at c.run.ensures.held in
    let len : vec_len after ≡ length after.items = search rules in
    let was : vec_len c.args.sources ≡ length c.args.sources.items = search rules in
    let same : vec_len c.args.sources ≡ vec_len after = was ∙ (same_count (λ d. g.R.Source.told d.source) keeps_digest c.args.sources.items after.items held ∙ sym len) in
    subst (λ n. n ≤ vec_capacity c.args.room) same c.requires.room

pub returns-in-Ok : goal.returns-in-Ok
returns-in-Ok g c =
    let sources = c.args.sources in
    let o = c.args.options.value in
    let len : vec_len sources ≡ length sources.items = search rules in
    let reported = rw (c.into_inner.ensures, c.in-Ok.is) at c.run.ensures.reported in
    let refused = rw (c.into_inner.ensures, c.in-Ok.is) at c.run.ensures.refused in
    let held = rw c.in-Ok.is at c.run.ensures.held in
    let end = c.finish.ensures in (
      c.run.new.readers.items,
      answered _ keeps_digest o c.args.seal (vec_len sources) sources.items c.run.new.readers.items c.digests_of.result.items _ _ _ reported.0
          c.in-Ok.status end.0 c.finish.result _ len c.requires.empty reported.1 refused c.requires.nothing held c.digests_of.ensures end.1 end.2,
    )

pub returns-in-Err : goal.returns-in-Err
returns-in-Err g c =
    let sources = c.args.sources in
    let len : vec_len sources ≡ length sources.items = search rules in
    let failed = Err c.in-Err.error in
    let refused = rw (c.into_inner.ensures, c.in-Err.is) at c.run.ensures.refused in (
      c.run.new.readers.items,
      record {
        sealed = inl (rw (c.into_inner.ensures, c.in-Err.is) at c.run.ensures.unwritten);
        refused = subst (λ n. MatchOption (refusal_of n c.args.options.value) (IfErr failed IsLateRun) (IsRefusedFor failed)) len
            (refused_by (refusal_of (vec_len sources) c.args.options.value) failed (λ e. c.run.new.readers ≡ sources) refused);
      },
    )
