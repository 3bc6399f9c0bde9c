use Rattle.dsr_ledger.proofs.Common.{arith, openings_of}
use Rattle.dsr_ledger.proofs.OpeningLemmas.{first_more, same_report-itself}
use Rattle.dsr_ledger.proofs.file.open.is_of_their_report.Goals as goal

pub returns-in-Some : goal.returns-in-Some
returns-in-Some c = grind (arith, first_more (openings_of c.args.files.now) c.args.opening.now)

pub returns-in-None : goal.returns-in-None
returns-in-None c =
    let o = c.args.opening.now in
    grind (arith, first_more (openings_of c.args.files.now) o, same_report-itself o.head)
