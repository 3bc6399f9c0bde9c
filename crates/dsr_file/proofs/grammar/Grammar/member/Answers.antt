use Rattle.dsr_file.proofs.Common.{None, ap, refl, option_and_then, record_seen, kept_count_fault, arith}
use Rattle.dsr_file.proofs.AddLemmas.{added_good, plain_member}
use Rattle.dsr_file.proofs.StepLemmas.{fault_free}
use Rattle.dsr_file.proofs.TestLemmas.{early_steps, early_none}
use Rattle.dsr_file.proofs.grammar.Grammar.member.Goals as goal

pub add_member-requires-clause-free : goal.add_member-requires-clause-free
add_member-requires-clause-free c =
    fault_free c.args.self.now.stage (record_seen c.args.line) (cc)

pub returns-in-Some-clause-steps : goal.returns-in-Some-clause-steps
returns-in-Some-clause-steps c = λ ls k.
    early_steps c.args.self.now c.args.self.now ls (record_seen c.args.line) c.in-Some.wrong k (cc)

pub returns-in_default-add_member-clause-steps : goal.returns-in_default-add_member-clause-steps
returns-in_default-add_member-clause-steps c = λ ls k. record {
  item = record_seen c.args.line;
  held = refl;
  fits =
      early_none c.args.self.now ls (record_seen c.args.line) k (cc);
  takes = c.in_default-add_member.ensures.memory;
}

pub returns-clause-steps : goal.returns-clause-steps
returns-clause-steps c = λ ls k.
    let item = record_seen c.args.line in
    let plain = plain_member c.args.self.now.stage item c.requires.member in
    let fits = early_none c.args.self.now ls item k (cc) in
    added_good c.args.self.now c.count.new.self ls item None k fits plain.real (grind arith) (ap (option_and_then (kept_count_fault c.count.new.self)) plain.foot)
