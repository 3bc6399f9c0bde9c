-- The texts of a run, and what the reader of statements answers on the statement of a report.
use Rattle.std.specs.Prelude.{◌≡◌, ◌++◌, map, ℕ, ◌<◌, ◌≤◌, ◌^◌, List, [], length, Option, None, Some, Result, Ok, Err}
use Rattle.std.specs.List.{AllByRecursion}
use Rattle.std.specs.Option.{option_map}
use Rattle.dsr_file.specs.meaning.Runs.{FileText}
use Rattle.dsr_io.specs.meaning.Written.{IsFlushed, Written}
use Rattle.dsr_ledger.specs.declared.report.Report.{Report}
use Rattle.dsr_ledger.specs.declared.report.ReportKey.{ReportKey}
use Rattle.dsr_statement.specs.declared.line.Line.{Line}
use Rattle.dsr_statement.specs.declared.fault.StatementFault.TheVariants as faults
use Rattle.dsr_statement.specs.declared.verdict.Status.{Status}
use Rattle.dsr_statement.specs.layer.Readings.{IsReading}
use Rattle.dsr_statement.specs.meaning.Status.{status_of, status_of_lines}
use Rattle.dsr_statement.specs.meaning.Readings.{Refusal, refused_after}
use Rattle.dsr_statement.specs.layer.Seals.{sealed_lines}
use Rattle.dsr_statement.specs.layer.Statements.{IsSealed}
use Rattle.dsr_statement.specs.meaning.Seals.{seal_lines}
use Rattle.dsr_statement.specs.meaning.Statement.{statement_lines, statement_of, text_of}
use Rattle.dsr_seal.specs.meaning.Counts.{line_feeds}
use Rattle.dsr_seal.specs.meaning.Digests.{digest_of}

-- the most files of a run, and the most bytes that it reads of a file: 16,777,216 reads of at most 4,096 bytes
abbrev pub most_files : ℕ
most_files = 64

abbrev pub most_file_bytes : ℕ
most_file_bytes = 2 ^ 36

-- no more texts, and none longer, than a run reads
pub record AreRunTexts (texts : List FileText) : Type 0 where
  pub few : length texts ≤ most_files
  pub short : AllByRecursion (λ text. length text.bytes ≤ most_file_bytes) texts

-- the lines of a report with a key; without one, the refusal of the first line
abbrev pub lines_if : Option ReportKey → List Line → Result (List Line) Refusal
lines_if None ls = Err (refused_after [] faults.NoReport)
lines_if (Some key) ls = Ok ls

-- what the statement of a report is read as: its lines; the refusal of its first line, if no file had an opening
abbrev pub reading_of_report : Report → Result (List Line) Refusal
reading_of_report r = lines_if r.key (statement_lines r)

-- one text was written and flushed; the reader answers on it the lines of this report, or refuses its first line; and the
-- status is that of the report's lines
abbrev pub IsWrittenAgain : Report → Written → Written → Status → Type 0
IsWrittenAgain r before after status =
    (text : List ℕ) × IsFlushed text before after × IsReading text (reading_of_report r)
    × (status ≡ status_of_lines (statement_lines r))

-- what a run with a seal writes: the statement of a report, and its seal, of the bytes of the layout, if one was given, and of
-- the files, of the number of its lines, and of its status
abbrev pub sealed_text : Option (List ℕ) → List (List ℕ) → Report → List ℕ
sealed_text layout given r =
    statement_of r
    ++ text_of (seal_lines (option_map digest_of layout) (map digest_of given) (line_feeds (statement_of r)) (status_of r))

-- there are bytes for each file, and their numbers, that of the layout's and that of the statement's fit into a seal
pub record AreSealable (layout : Option (List ℕ)) (given : List (List ℕ)) (r : Report) : Type 0 where
  pub each : length given ≡ length r.files
  pub short : AllByRecursion (λ bytes. length bytes < 2 ^ 64) given
  pub layout_short : (bytes : List ℕ) → layout ≡ Some bytes → length bytes < 2 ^ 64
  pub statement : length (statement_of r) < 2 ^ 63

-- the statement with its seal is a sealed statement, and is read as its lines
abbrev pub IsReadSealed : Option (List ℕ) → List (List ℕ) → Report → Type 0
IsReadSealed layout given r =
    IsSealed (sealed_lines (option_map digest_of layout) (map digest_of given) r)
    × IsReading (sealed_text layout given r) (Ok (sealed_lines (option_map digest_of layout) (map digest_of given) r))
