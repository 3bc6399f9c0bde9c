use Rattle.dsr_cells.proofs.Common.{refl, append_assoc}
use Rattle.dsr_cells.proofs.SpelledDays.{written_day_spells}
use Rattle.dsr_cells.proofs.WrittenAmounts.{styled_is_padded}
use Rattle.dsr_cells.proofs.written.write_day.Goals as goal

pub returns-clause-value : goal.returns-clause-value
returns-clause-value c =
    let text =
    rw (
      c.laid_out.ensures,
      c.laid_out-2.ensures,
      c.laid_out-3.ensures,
      styled_is_padded 4 c.parts-year.result.0 refl,
      styled_is_padded 2 c.parts-year.result.1 refl,
      styled_is_padded 2 c.parts-year.result.2 refl,
      c.parts-year.ensures.value,
    ) at c.in_ok-text.ensures.ok in
    rw (c.in_ok-extend_from_slice.ensures.items, c.as_bytes.ensures.value, text) (simp append_assoc)

pub returns-in_err-text-clause-spelling : goal.returns-in_err-text-clause-spelling
returns-in_err-text-clause-spelling c = written_day_spells _ c.parts-year.ensures.civil

pub returns-in_err-extend_from_slice-clause-spelling : goal.returns-in_err-extend_from_slice-clause-spelling
returns-in_err-extend_from_slice-clause-spelling c = written_day_spells _ c.parts-year.ensures.civil

pub returns-clause-spelling : goal.returns-clause-spelling
returns-clause-spelling c = written_day_spells _ c.parts-year.ensures.civil
