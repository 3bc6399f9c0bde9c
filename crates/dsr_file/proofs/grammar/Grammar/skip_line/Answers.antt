use Rattle.dsr_file.proofs.Common.{refl, sym, add-zero, SkippedLine, fault_of}
use Rattle.dsr_file.proofs.TestLemmas.{skip_steps}
use Rattle.dsr_file.proofs.grammar.Grammar.skip_line.Goals as goal

pub returns-clause-steps : goal.returns-clause-steps
unfolding fault_of
returns-clause-steps c = λ ls k. skip_steps c.args.self.now _ ls SkippedLine refl refl k refl refl refl (sym (add-zero _)) refl refl refl
