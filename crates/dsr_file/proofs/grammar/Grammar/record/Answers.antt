use Rattle.dsr_file.proofs.Common.{refl, record_seen, arith}
use Rattle.dsr_file.proofs.AddLemmas.{added_good, added_faulty}
use Rattle.dsr_file.proofs.StepLemmas.{fault_free}
use Rattle.dsr_file.proofs.TestLemmas.{early_steps, early_none}
use Rattle.dsr_file.proofs.grammar.Grammar.record.Goals as goal

pub add-requires-clause-free : goal.add-requires-clause-free
add-requires-clause-free c =
    fault_free c.args.self.now.stage (record_seen c.args.line) (cc)

pub returns-in-Some-clause-steps : goal.returns-in-Some-clause-steps
returns-in-Some-clause-steps c = λ ls k real.
    rw c.requires.none (early_steps c.args.self.now c.args.self.now ls (record_seen c.args.line) c.in-Some.fault k (cc))

pub returns-in_default-add-clause-steps : goal.returns-in_default-add-clause-steps
returns-in_default-add-clause-steps c = λ ls k real. record {
  item = record_seen c.args.line;
  held = refl;
  fits =
      early_none c.args.self.now ls (record_seen c.args.line) k (cc);
  takes = c.in_default-add.ensures.memory;
}

pub returns-in-Some-fault_at_foot-clause-steps : goal.returns-in-Some-fault_at_foot-clause-steps
returns-in-Some-fault_at_foot-clause-steps c = λ ls k real.
    let item = record_seen c.args.line in
    let fits = early_none c.args.self.now ls item k (cc) in
    added_faulty c.args.self.now c.count.new.self ls item c.add.new.closed k fits real (grind arith) c.in-Some-fault_at_foot.wrong (cc)

pub returns-in-None-clause-steps : goal.returns-in-None-clause-steps
returns-in-None-clause-steps c = λ ls k real.
    let item = record_seen c.args.line in
    let fits = early_none c.args.self.now ls item k (cc) in
    added_good c.args.self.now c.count.new.self ls item c.add.new.closed k fits real (grind arith) (cc)
