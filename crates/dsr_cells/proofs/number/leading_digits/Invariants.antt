use Rattle.dsr_cells.proofs.Common.{◌≡◌, ◌≤◌, take, true, is_ascii_digit, list_all, digits_sum}
use Rattle.dsr_cells.proofs.number.leading_digits.Given as goal

abbrev pub invariant-loop-count : goal.invariant-loop-count
invariant-loop-count l = record {
  few : l.count ≤ l.most;
  digits : list_all is_ascii_digit (take l.count l.bytes) ≡ true;
  value : l.sum ≡ digits_sum (take l.count l.bytes);
}
