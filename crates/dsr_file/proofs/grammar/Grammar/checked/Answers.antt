use Rattle.dsr_file.proofs.TestLemmas.{real_record}
use Rattle.dsr_file.proofs.grammar.Grammar.checked.Goals as goal

pub returns-in-Usage-clause-steps : goal.returns-in-Usage-clause-steps
returns-in-Usage-clause-steps c = λ ls k. rw (c.in-Usage.is, c.requires.none) (c.member.ensures.steps ls k)

pub returns-in-Work-clause-steps : goal.returns-in-Work-clause-steps
returns-in-Work-clause-steps c = λ ls k. rw (c.in-Work.is, c.requires.none) (c.member-in-Work.ensures.steps ls k)

pub returns-in-Resource-clause-steps : goal.returns-in-Resource-clause-steps
returns-in-Resource-clause-steps c = λ ls k. rw c.in-Resource.is (c.record.ensures.steps ls k tt)

pub returns-in-Skipped-clause-steps : goal.returns-in-Skipped-clause-steps
returns-in-Skipped-clause-steps c = λ ls k. rw (c.in-Skipped.is, c.requires.none) (c.skip_record.ensures.steps ls k)

pub returns-in_default-clause-steps : goal.returns-in_default-clause-steps
returns-in_default-clause-steps c = λ ls k. c.record_apart.ensures.steps ls k (real_record c.args.line c.in_default.not-Skipped)
