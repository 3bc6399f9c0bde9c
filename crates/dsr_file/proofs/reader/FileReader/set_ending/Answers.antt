use Rattle.dsr_file.proofs.Common.{refl}
use Rattle.dsr_file.proofs.EndLemmas.{ending_set, is_none_is}
use Rattle.dsr_file.proofs.reader.FileReader.set_ending.Goals as goal

pub returns-then-is_none-clause-ended : goal.returns-then-is_none-clause-ended
returns-then-is_none-clause-ended c = λ n layout b es s.
    ending_set layout c.args.self.now _ c.args.ending b es (is_none_is _ _ c.is_none.ensures c.if-is_none.true) refl refl refl refl refl n s
