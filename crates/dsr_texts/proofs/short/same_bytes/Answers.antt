use Rattle.dsr_texts.proofs.Common.{rules}
use Rattle.dsr_texts.proofs.Shorts.{same_words}
use Rattle.dsr_texts.proofs.short.same_bytes.Goals as goal

pub returns : goal.returns
returns c =
    rw (
      c.word.ensures,
      c.word-2.ensures,
      c.word-3.ensures,
      c.word-4.ensures,
      c.word-5.ensures,
      c.word-6.ensures,
    ) (same_words c.args.bytes.now c.args.other.now (search rules) (search rules) (search rules) (search rules))
