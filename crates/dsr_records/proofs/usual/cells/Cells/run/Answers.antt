use Rattle.dsr_records.proofs.Common.{arith}
use Rattle.dsr_records.proofs.UsualCells.{cell_within, cell_printable}
use Rattle.dsr_records.proofs.usual.cells.Cells.run.Goals as goal

pub returns-clause-within : goal.returns-clause-within
returns-clause-within c =
    let s = c.args.self.now in
    cell_within s.page.now s.at s.end s.odd s.few (omega (arith, s.behind)) s.known s.order (omega (arith, c.if-self-eq0.false))

pub returns-clause-printable : goal.returns-clause-printable
returns-clause-printable c =
    let s = c.args.self.now in
    cell_printable s.page.now s.at s.end s.odd s.few (omega (arith, s.behind)) s.known s.order (omega (arith, c.if-self-eq0.false))
