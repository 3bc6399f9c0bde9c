use Rattle.dsr_intake.specs.meaning.Texts.{report_of_texts}
use Rattle.dsr_laws.proofs.Given.{files_few, texts_readable}
use Rattle.dsr_laws.proofs.Seals.{sealed_read}
use Rattle.dsr_laws.proofs.laws.sealed_statements_are_read_again.Goals as goal

pub returns : goal.returns
returns c = λ layout texts key own given run e sealable.
    sealed_read key (report_of_texts layout texts) (texts_readable layout texts key run e) own given sealable (files_few layout texts run)
