-- Lemmas on written numbers.
use Rattle.dsr_cells.proofs.Common.{◌≡◌, ◌^◌, ◌-◌, ℕ, false, eqb, styled_decimal, format_spec, append-nil, sub-zero, padded_number}
use Rattle.std.specs.Fmt.{padded_integral, char_count}

pub styled_is_padded : (width n : ℕ) → eqb width 0 ≡ false → styled_decimal (format_spec 32 0 4 width (2 ^ 64 - 1)) n ≡ padded_number width n
unfolding padded_integral char_count
styled_is_padded width n some = rw some (simp (append-nil, sub-zero))
