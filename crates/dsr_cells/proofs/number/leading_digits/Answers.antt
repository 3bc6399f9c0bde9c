use Rattle.dsr_cells.proofs.Common.{arith, ◌∙◌, ◌≡◌, ◌<◌, ◌^◌, length, le-leb}
use Rattle.dsr_cells.proofs.Numbers.{sum-lt, sum_small, sum_more, digits_more}
use Rattle.dsr_cells.proofs.number.leading_digits.Goals as goal

pub returns-then-count-most-clause-bound : goal.returns-then-count-most-clause-bound
returns-then-count-most-clause-bound c = rw c.loop-count.invariant.value (sum-lt c.args.bytes.now c.loop-count.count c.loop-count.invariant.digits)

pub overflow_mul-sum : goal.overflow_mul-sum
overflow_mul-sum c =
    let small : c.loop-count.sum < 10 ^ 12 = rw c.loop-count.invariant.value
    (sum_small c.args.bytes.now c.loop-count.count c.args.most c.requires c.loop-count.invariant.few c.loop-count.invariant.digits) in
    omega arith

pub overflow_add-sum : goal.overflow_add-sum
overflow_add-sum c =
    let small : c.loop-count.sum < 10 ^ 12 = rw c.loop-count.invariant.value
    (sum_small c.args.bytes.now c.loop-count.count c.args.most c.requires c.loop-count.invariant.few c.loop-count.invariant.digits) in
    omega arith

pub loop-count-preserved : goal.loop-count-preserved
loop-count-preserved c = record {
  few = omega arith;
  digits = digits_more c.args.bytes.now c.loop-count.count (omega arith) c.loop-count.invariant.digits (c.digit_of-digit.ensures.digit
      ∙ le-leb _ _ c.if-digit-gt9.false);
  value =
      omega (
        arith,
        c.digit_of-digit.ensures.value c.if-digit-gt9.false,
        c.loop-count.invariant.value,
        sum_more c.args.bytes.now c.loop-count.count
            (omega arith),
      );
}

pub returns-clause-bound : goal.returns-clause-bound
returns-clause-bound c =
    let all_ : c.loop-count.count ≡ length c.args.bytes.now = omega arith in
    rw (← all_) (rw c.loop-count.invariant.value (sum-lt c.args.bytes.now c.loop-count.count c.loop-count.invariant.digits))
