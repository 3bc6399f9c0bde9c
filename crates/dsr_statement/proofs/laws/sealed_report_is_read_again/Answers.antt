use Rattle.dsr_statement.proofs.SealedAgain.{is_sealed_statement, sealed_again}
use Rattle.dsr_statement.proofs.laws.sealed_report_is_read_again.Goals as goal

pub returns-clause-sealed : goal.returns-clause-sealed
returns-clause-sealed c = λ key report layout inputs h d. is_sealed_statement key report h layout inputs d

pub returns-clause-again : goal.returns-clause-again
returns-clause-again c = λ key report layout inputs h d. sealed_again key report h layout inputs d
