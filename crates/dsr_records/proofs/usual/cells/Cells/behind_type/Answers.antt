use Rattle.dsr_records.proofs.Common.{arith}
use Rattle.dsr_records.proofs.UsualCells.{behind_type}
use Rattle.dsr_records.proofs.UsualLines.{type_front}
use Rattle.dsr_records.proofs.usual.cells.Cells.behind_type.Goals as goal

pub invariant_of-result : goal.invariant_of-result
invariant_of-result c = record {
  order = omega arith;
  few = omega arith;
  near = omega arith;
  behind = omega (arith, c.requires);
  known = behind_type c.args.page.now _ c.odd_of_64.ensures;
}

pub returns : goal.returns
returns c name type = type_front c.args.page.now name (omega (arith, c.requires)) type
