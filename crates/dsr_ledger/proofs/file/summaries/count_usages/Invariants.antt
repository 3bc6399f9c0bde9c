use Rattle.dsr_ledger.proofs.Common.{◌≡◌, ℕ, List, take, option_map, AllByRecursion, IsInRange, state_at, state_with}
use Rattle.dsr_ledger.proofs.file.summaries.count_usages.Given as goal

abbrev pub invariant-loop-usage : goal.invariant-loop-usage
invariant-loop-usage l = record {
  range : AllByRecursion IsInRange (take l.usage-index l.usages);
  summaries : (id : List ℕ) → state_at l.summaries id ≡ option_map (state_with id (take l.usage-index l.usages)) (state_at l.fn.summaries id);
}
