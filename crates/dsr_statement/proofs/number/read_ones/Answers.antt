use Rattle.std.proofs.Common.{arith, rules, ◌≡◌, ◌<◌, true, get_or, length}
use Rattle.std.specs.Char.{is_ascii_digit}
use Rattle.dsr_cells.proofs.Numbers.{digits_more, sum_more}
use Rattle.dsr_statement.proofs.number.read_ones.Goals as goal

pub loop-byte-preserved : goal.loop-byte-preserved
loop-byte-preserved c =
    let bytes = c.args.bytes.now in
    let at = c.loop-byte.byte-index in
    let less : at < length bytes = omega arith in
    let digit : is_ascii_digit (get_or bytes at 0) ≡ true = search rules in
    record {
      digits = digits_more bytes at less c.loop-byte.invariant.digits digit;
      sum = omega (arith, sum_more bytes at less);
    }
