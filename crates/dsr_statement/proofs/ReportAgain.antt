-- Reading inverts writing.
use Rattle.std.proofs.Common.{◌≡◌, [], ◌∷◌, ◌++◌, map, sym, subst, Option, None, Ok, Err}
use Rattle.std.specs.List.{flat_map}
use Rattle.dsr_ledger.specs.declared.report.ReportKey.{ReportKey}
use Rattle.dsr_ledger.specs.declared.report.Report.{Report}
use Rattle.dsr_statement.specs.declared.line.Line.TheVariants as lines
use Rattle.dsr_statement.specs.declared.fault.StatementFault.TheVariants as faults
use Rattle.dsr_statement.specs.meaning.Readings.{refused_after}
use Rattle.dsr_statement.specs.layer.Readings.{IsReading}
use Rattle.dsr_statement.specs.meaning.Statement.{text_of, head_of, files_from, lines_of_ledger, statement_lines, statement_of}
use Rattle.dsr_statement.specs.layer.Statements.{IsReadable}
use Rattle.dsr_statement.proofs.AgainTexts.{is_read_again, no_report}
use Rattle.dsr_statement.proofs.ReportPlaces.{is_statement}

pub report_again : (key : ReportKey) (r : Report) → IsReadable key r → IsReading (statement_of r) (Ok (statement_lines r))
unfolding statement_of
report_again key r h = is_read_again (statement_lines r) (is_statement key r h)

pub without_report : (r : Report) → r.key ≡ None → IsReading (statement_of r) (Err (refused_after [] faults.NoReport))
unfolding statement_of
without_report r none =
    let tail = files_from 1 r.files ++ (map (λ n. lines.Missing n) r.missing ++ (map (λ d. lines.Summary d) r.differences
    ++ (flat_map lines_of_ledger r.ledger ++ map (λ x. lines.Reject x) r.rejects))) in
    subst (λ (k : Option ReportKey). IsReading (text_of (head_of k ∷ tail)) (Err (refused_after [] faults.NoReport))) (sym none) (no_report tail)
