use Rattle.std.proofs.Common.{◌≡◌, ◌++◌, ◌+◌, take}
use Rattle.dsr_sums.specs.meaning.Statements.{statement_lines}
use Rattle.dsr_sums.proofs.TextLemmas.{given_count}
use Rattle.dsr_sums.proofs.text.put_statements.Given as goal

abbrev pub invariant-loop-report : goal.invariant-loop-report
invariant-loop-report l = record {
  place : l.place ≡ 1 + given_count (take l.report-index l.reports);
  lines : l.out.items ≡ l.initial.out.items ++ statement_lines 1 l.reports (take l.report-index l.reports);
}
