use Rattle.dsr_ledger.proofs.Common.{◌≡◌, ◌≤◌, map, take, filter, All, Some, vec_len, vec_capacity, key_in}
use Rattle.dsr_ledger.proofs.view.sorted.lines_by_key.Given as goal

abbrev pub invariant-loop-line : goal.invariant-loop-line
invariant-loop-line l = record {
  all : map (λ e. e.1.now) l.listed.items ≡ filter (λ x. x.sums.is_booked) (take l.line-index l.lines);
  own : All (λ e. key_in l.keys e.0.now ≡ Some e.1.now.sums.key) l.listed.items;
  many : vec_len l.listed ≤ l.line-index;
  room : vec_capacity l.listed ≡ vec_capacity l.fn.listed;
}
