use Rattle.std.proofs.Common.{sym, subst, ◌∷◌}
use Rattle.std.specs.Prelude.{reverse}
use Rattle.dsr_statement.specs.inner.After.{IsAfter}
use Rattle.dsr_sums.proofs.ReadingLemmas.{reads_more}
use Rattle.dsr_sums.proofs.reading.Reading.take.Goals as goal

pub returns-in-Ok-keep_key-clause-taken : goal.returns-in-Ok-keep_key-clause-taken
returns-in-Ok-keep_key-clause-taken c = λ done reads.
    let line = c.in-Ok.ensures in let keep = c.in-Ok-keep_key.ensures in (
      c.in-Ok.line,
      line.found (reverse done) reads.after,
      reads_more c.args.self.now c.keep_key.new.self done c.in-Ok.line reads
          (subst (λ r. IsAfter r (c.in-Ok.line ∷ reverse done)) (sym keep.reader) (line.after (reverse done) reads.after)) keep.key,
      c.in_default.ensures,
    )
