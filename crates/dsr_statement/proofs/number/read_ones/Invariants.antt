use Rattle.std.proofs.Common.{◌≡◌, ◌^◌, ◌-◌, true, take, min}
use Rattle.std.specs.Char.{is_ascii_digit}
use Rattle.std.specs.List.{list_all}
use Rattle.dsr_cells.specs.meaning.Numbers.{digits_sum}
use Rattle.dsr_statement.proofs.number.read_ones.Given as goal

abbrev pub invariant-loop-byte : goal.invariant-loop-byte
invariant-loop-byte l = record {
  digits : list_all is_ascii_digit (take l.byte-index l.bytes) ≡ true;
  sum : l.sum ≡ min (digits_sum (take l.byte-index l.bytes)) (2 ^ 128 - 1);
}
