use Rattle.std.proofs.Common.{◌∙◌, sym}
use Rattle.dsr_statement.proofs.RemarkLines.{report_status}
use Rattle.dsr_laws.proofs.Given.{run_again}
unfoldable use Rattle.dsr_intake.specs.meaning.Texts.{report_of_texts}
use Rattle.dsr_statement.specs.meaning.Statement.{statement_of}
use Rattle.dsr_laws.proofs.laws.what_a_run_wrote_is_read_again.Goals as goal

pub returns : goal.returns
returns g c = λ options readers left before after texts status allowed reported.
    let r = report_of_texts options.layout texts in (
      statement_of r,
      reported.written,
      run_again g.R.Source.told options readers left texts allowed reported.given,
      reported.status_is ∙ sym (report_status r),
    )
