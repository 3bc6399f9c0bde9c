-- The last ten digits of a number of eleven.
use Rattle.dsr_cells.proofs.Common.{arith, ◌≡◌, ◌<◌, ◌-◌, ◌+◌, ◌^◌, ℕ, ◌∷◌, length, refl, ap, sym, ◌∙◌, decimal, decimal-digits_value, digits_sum, padded_number}
use Rattle.dsr_cells.proofs.Numbers.{own}
use Rattle.dsr_cells.proofs.Spelled.{all_digits, zeros_digits, zeros_spelled, spelled, padded_length}

-- ten digits behind a first `1`
pub eleven_digits : (n : ℕ) → n < 10 ^ 10 → decimal (n + 10 ^ 10) ≡ 49 ∷ padded_number 10 n
eleven_digits n few =
    let ds = padded_number 10 n in
    let long : length ds ≡ 10 = padded_length n few in
    let digits = zeros_digits (10 - length (decimal n)) (decimal n) (all_digits n (omega arith)) in
    let rest : digits_sum ds ≡ n = zeros_spelled (10 - length (decimal n)) (decimal n) ∙ spelled n (omega arith) in
    let value : digits_sum (49 ∷ ds) ≡ n + 10 ^ 10 = rw (long, rest) (omega arith) in
    ap decimal (sym value) ∙ decimal-digits_value own (49 ∷ ds) digits (omega arith) (λ e. absurd (omega (arith, e))) (omega (arith, value))

pub eleven_long : (n : ℕ) → n < 10 ^ 10 → length (decimal (n + 10 ^ 10)) ≡ 11
eleven_long n few = rw (eleven_digits n few, padded_length n few) refl
