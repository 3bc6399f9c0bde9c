-- The report of the texts that the readers gave.
use Rattle.std.specs.Prelude.{◌≡◌, List}
use Rattle.dsr_file.specs.meaning.Runs.{FileText}
use Rattle.dsr_io.specs.meaning.Told.{Told}
use Rattle.dsr_ledger.specs.declared.report.Report.{Report}
use Rattle.dsr_intake.specs.declared.options.Options.{Options}
use Rattle.dsr_intake.specs.meaning.Texts.{GaveEach, report_of_texts}

-- the report is the one of the texts that the readers gave
abbrev pub IsReportOf : {R : Type 0} → (R → Told) → Options → List R → List R → Report → Type 0
IsReportOf told options readers left report =
    (texts : List FileText) × GaveEach told options readers left texts × (report ≡ report_of_texts options.layout texts)
