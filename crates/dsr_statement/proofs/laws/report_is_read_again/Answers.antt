use Rattle.dsr_statement.proofs.ReportAgain.{report_again}
use Rattle.dsr_statement.proofs.laws.report_is_read_again.Goals as goal

pub returns : goal.returns
returns c = report_again
