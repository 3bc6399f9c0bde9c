use Rattle.dsr_cells.proofs.Common.{ℕ, List, ◌^◌, arith, lit<, ◌∙◌, ◌≡◌, ◌≤◌, ◌<◌, ◌-◌, length, get_or, replicate, append_assoc, decimal, length-decimal-le_wide, get_or-replicate, drop-replicate}
use Rattle.dsr_cells.proofs.amount.push_decimals.Goals as goal

short : (units : ℕ) (digits : List ℕ) → digits ≡ decimal units → units < 10 ^ 10 → length digits ≤ 10
short units digits e few = rw e (length-decimal-le_wide 10 units (lit< tt) few (omega arith))

pub range_from-requires : goal.range_from-requires
range_from-requires c some = (
  short c.args.units c.format-digits.result.now c.format-digits.ensures.text c.requires.few,
  λ less high. let zero_ : get_or (replicate {A = ℕ} 10 48) (length c.format-digits.result.now) 0 ≡ 48 =
      get_or-replicate 10 (length c.format-digits.result.now) 48 0 less in absurd (omega (arith, zero_, high)),
)

pub returns : goal.returns
returns c =
    let zeros : c.range_from.result.now ≡ replicate (10 - length c.format-digits.result.now) 48 =
    c.range_from.ensures.value ∙ drop-replicate (length c.format-digits.result.now) 10 48 in
    rw (c.push_str-2.ensures.bytes, c.push_str.ensures.bytes, zeros, c.format-digits.ensures.text) (append_assoc c.args.text.now.bytes _ _)
