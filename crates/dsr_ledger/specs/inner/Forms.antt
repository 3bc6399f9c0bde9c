-- What the two forms of sums hold: numbers of 64 bits in place, or of 128 bits on the heap.
use Rattle.std.specs.Prelude.{true}
use Rattle.dsr_ledger.specs.declared.ledger.part.PartForm.{PartForm}
use Rattle.dsr_ledger.specs.declared.ledger.part.PartForm.TheVariants as part
use Rattle.dsr_ledger.specs.declared.ledger.totals.LineForm.{LineForm}
use Rattle.dsr_ledger.specs.declared.ledger.totals.LineForm.TheVariants as line
use Rattle.dsr_ledger.specs.inner.Held.{HeldPart, HeldLine}

abbrev pub part_held : PartForm → HeldPart
part_held (part.Narrow has_part seat amount) = record { seat = seat; has_part = has_part; amount = amount }
part_held (part.Wide seat amount) = record { seat = seat; has_part = true; amount = amount.value }

abbrev pub line_held : LineForm → HeldLine
line_held (line.Narrow is_booked key usages amount) = record { key = key; is_booked = is_booked; usages = usages; amount = amount }
line_held (line.Wide key usages amount) = record { key = key; is_booked = true; usages = usages.value; amount = amount.value }
