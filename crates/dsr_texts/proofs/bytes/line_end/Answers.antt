use Rattle.dsr_texts.proofs.Common.{arith, eqb, length, sym}
use Rattle.std.proofs.lemmas.Bool.{false_from_ne_true}
use Rattle.std.proofs.lemmas.List.Sums.{position_or_len_is}
use Rattle.dsr_texts.proofs.bytes.line_end.Goals as goal

pub returns-in-Some-clause-value : goal.returns-in-Some-clause-value
returns-in-Some-clause-value c =
    let found = c.in-Some.ensures in
    sym (position_or_len_is (λ b. eqb b 10) c.args.bytes.now c.in-Some.end 0 (omega (arith, found.0.high)) (λ k lt. false_from_ne_true _ (found.0.before k (omega arith) lt)) (λ _. found.1))

pub returns-in-None-clause-value : goal.returns-in-None-clause-value
returns-in-None-clause-value c =
    sym (position_or_len_is (λ b. eqb b 10) c.args.bytes.now (length c.args.bytes.now) 0 (omega arith) (λ k lt. false_from_ne_true _ (c.in-None.ensures k (omega arith) lt))
    (λ short. absurd (omega (arith, short))))
