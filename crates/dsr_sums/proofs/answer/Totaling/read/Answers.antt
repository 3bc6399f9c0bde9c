use Rattle.std.proofs.Common.{ap, ◌∙◌}
use Rattle.std.specs.Prelude.{option_map}
use Rattle.dsr_sums.specs.declared.answer.Totaling.{Totaling}
use Rattle.dsr_sums.specs.meaning.Statements.{fault_after}
use Rattle.dsr_sums.specs.layer.Statements.{line_and_fault}
use Rattle.dsr_sums.proofs.TotalingLemmas.{next_read, next_refused}
use Rattle.dsr_sums.proofs.answer.Totaling.read.Goals as goal

pub returns-in-Ok-clause-next : goal.returns-in-Ok-clause-next
returns-in-Ok-clause-next g c = λ ss held.
    let self = c.args.self.now in let report = c.in_ok-report.report in
    let new : Totaling = record { alloc = self.alloc; rules = self.rules; totals = c.read_statement.new.totals; reports = c.push_report.new.reports } in
    next_read self new self.rules c.args.role (g.R.Source.told c.args.source.now) (g.R.Source.told c.read_statement.new.source) report ss held
    c.in_ok-report.ensures (c.in-None.ensures ∙ ap (λ rs. option_map line_and_fault (fault_after self.rules rs report)) c.deref.ensures.value)
    c.in-Ok.ensures

pub returns-in-Some-clause-next : goal.returns-in-Some-clause-next
returns-in-Some-clause-next g c = λ ss held.
    let self = c.args.self.now in let report = c.in_ok-report.report in
    next_refused self c.read_statement.new.totals self.rules c.args.role (g.R.Source.told c.args.source.now) (g.R.Source.told c.read_statement.new.source)
    report ss c.in-Some.line c.in-Some.fault held c.in_ok-report.ensures
    (c.in-Some.ensures ∙ ap (λ rs. option_map line_and_fault (fault_after self.rules rs report)) c.deref.ensures.value)
