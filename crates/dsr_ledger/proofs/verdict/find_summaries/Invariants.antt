use Rattle.dsr_ledger.proofs.Common.{◌≡◌, take, map, false, Some, list_any, is_known, index_at, names_unknown}
use Rattle.dsr_ledger.proofs.verdict.find_summaries.Given as goal

abbrev pub invariant-loop-usage : goal.invariant-loop-usage
invariant-loop-usage l = record {
  known : list_any (names_unknown (is_known l.summaries)) (take l.usage-index l.usages) ≡ false;
  found : map (λ u. index_at l.summaries u.summary_id) (take l.usage-index l.usages) ≡ map Some l.numbers.items;
}
