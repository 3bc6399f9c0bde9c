use Rattle.dsr_ledger.proofs.Common.{◌≡◌, not, filter, list_any, range_with_len, is_number_kept}
use Rattle.dsr_ledger.proofs.findings.absent_numbers.Given as goal

abbrev pub invariant-loop-before : goal.invariant-loop-before
invariant-loop-before l = l.absent ≡ filter (λ n. not (list_any (is_number_kept n) l.files)) (range_with_len 1 l.before)
