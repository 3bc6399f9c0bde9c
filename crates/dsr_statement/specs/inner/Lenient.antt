-- What is read leniently: each line from its own cells, and any from others.
use Rattle.std.specs.Prelude.{◌≡◌, ℕ, ℤ, Bool, true, false, List, [], ◌∷◌, Option, Some, None, drop, map}
use Rattle.std.specs.List.{list_all}
use Rattle.dsr_events.specs.meaning.Names.{name_of, column_named}
use Rattle.dsr_events.specs.declared.fault.Outcome.{Outcome}
use Rattle.dsr_events.specs.declared.kinds.Column.{Column}
use Rattle.dsr_events.specs.declared.kinds.Column.TheVariants as columns
use Rattle.dsr_events.specs.declared.fault.FileFault.{FileFault}
use Rattle.dsr_events.specs.declared.fault.FileFault.TheVariants as faults
use Rattle.dsr_ledger.specs.declared.report.FileLine.{FileLine}
use Rattle.dsr_ledger.specs.declared.verdict.Standing.{Standing}
use Rattle.dsr_ledger.specs.declared.verdict.Standing.TheVariants as standings
use Rattle.dsr_ledger.specs.declared.verdict.Reason.{Reason}
use Rattle.dsr_ledger.specs.declared.verdict.Reason.TheVariants as reasons
use Rattle.dsr_statement.specs.declared.line.Line.{Line}
use Rattle.dsr_statement.specs.declared.line.Line.TheVariants as lines
use Rattle.dsr_statement.specs.declared.line.LineKind.{LineKind}
use Rattle.dsr_statement.specs.declared.line.LineKind.TheVariants as kinds
use Rattle.dsr_ledger.specs.meaning.Bookings.{Key}
use Rattle.dsr_ledger.specs.declared.report.ReportKey.{ReportKey}
use Rattle.dsr_ledger.specs.declared.report.PartyLine.{PartyLine}
use Rattle.dsr_ledger.specs.declared.report.Difference.{Difference}
use Rattle.dsr_ledger.specs.declared.report.Reject.{Reject}
use Rattle.dsr_statement.specs.declared.verdict.Status.{Status}
use Rattle.dsr_statement.specs.declared.verdict.Status.TheVariants as statuses
use Rattle.dsr_statement.specs.meaning.Digests.{Digest}
use Rattle.dsr_statement.specs.meaning.Cells.{Cell, cell_text, is_cell, is_printed_fault}
use Rattle.dsr_statement.specs.meaning.Lines.{column_cells, outcome_cells, cell_texts, is_line}

-- a value of a cell is read from its own text
abbrev pub Reads : {A : Type 0} → (A → Cell) → List ℕ → Option A → Type 0
Reads {A} cell text result = (x : A) → is_cell (cell x) ≡ true → text ≡ cell_text (cell x) → result ≡ Some x

-- a line is read from its own cells
abbrev pub ReadsLine : Line → List (List ℕ) → Option Line → Type 0
ReadsLine l row result = is_line l ≡ true → row ≡ cell_texts l → result ≡ Some l

-- each line of this kind is read from its own cells
abbrev pub ReadsKind : LineKind → List (List ℕ) → Option Line → Type 0
ReadsKind kinds.Report row result = (key : ReportKey) → ReadsLine (lines.Report key) row result
ReadsKind kinds.NoReport row result = ReadsLine lines.NoReport row result
ReadsKind kinds.File row result = (place : ℕ) (f : FileLine) → ReadsLine (lines.File place f) row result
ReadsKind kinds.Missing row result = (n : ℕ) → ReadsLine (lines.Missing n) row result
ReadsKind kinds.Summary row result = (d : Difference) → ReadsLine (lines.Summary d) row result
ReadsKind kinds.Ledger row result = (key : Key) (usages amount : ℤ) → ReadsLine (lines.Ledger key usages amount) row result
ReadsKind kinds.Party row result = (key : Key) (p : PartyLine) → ReadsLine (lines.Party key p) row result
ReadsKind kinds.Unclaimed row result = (key : Key) (amount : ℤ) → ReadsLine (lines.Unclaimed key amount) row result
ReadsKind kinds.Reject row result = (r : Reject) → ReadsLine (lines.Reject r) row result
ReadsKind kinds.Layout row result = (d : Digest) → ReadsLine (lines.Layout d) row result
ReadsKind kinds.Input row result = (place : ℕ) (d : Digest) → ReadsLine (lines.Input place d) row result
ReadsKind kinds.End row result = (n : ℕ) (s : Status) → ReadsLine (lines.End n s) row result

abbrev pub kind_of : Line → LineKind
kind_of (lines.Report key) = kinds.Report
kind_of lines.NoReport = kinds.NoReport
kind_of (lines.File place f) = kinds.File
kind_of (lines.Missing n) = kinds.Missing
kind_of (lines.Summary d) = kinds.Summary
kind_of (lines.Ledger key usages amount) = kinds.Ledger
kind_of (lines.Party key p) = kinds.Party
kind_of (lines.Unclaimed key amount) = kinds.Unclaimed
kind_of (lines.Reject r) = kinds.Reject
kind_of (lines.Layout d) = kinds.Layout
kind_of (lines.Input place d) = kinds.Input
kind_of (lines.End n s) = kinds.End

abbrev pub standings_in_order : List Standing
standings_in_order = standings.Ours ∷ standings.Foreign ∷ standings.Doubled ∷ standings.Headless ∷ []

abbrev pub reasons_in_order : List Reason
reasons_in_order =
    reasons.ForeignFile ∷ reasons.DoubledFile ∷ reasons.DoubledBlock ∷ reasons.NoIsrc ∷ reasons.BadIsrc ∷ reasons.UnknownSummary
    ∷ reasons.ShareOver ∷ []

abbrev pub statuses_in_order : List Status
statuses_in_order = statuses.Clean ∷ statuses.Remarks ∷ []

abbrev pub columns_in_order : List Column
columns_in_order =
    columns.MessageId ∷ columns.FileNumber ∷ columns.NumberOfFiles ∷ columns.UsageStartDate ∷ columns.UsageEndDate ∷ columns.Sender
    ∷ columns.Recipient ∷ columns.SummaryRecordId ∷ columns.Territory ∷ columns.UseType ∷ columns.Currency ∷ columns.Usages ∷ columns.Amount
    ∷ columns.BlockId ∷ columns.Isrc ∷ columns.Titles ∷ columns.Artists ∷ columns.WorkId ∷ columns.Title ∷ columns.Parties ∷ columns.Shares
    ∷ columns.NumberOfLinesInFile ∷ columns.NumberOfSummaryRecords ∷ columns.NumberOfBlocksInFile ∷ []

-- the faults that have no column and are printed
abbrev pub plain_faults : List FileFault
plain_faults =
    faults.LongLine ∷ faults.NotUtf8 ∷ faults.ManyCells ∷ faults.UnknownRecord ∷ faults.Uneven ∷ faults.NoHead ∷ faults.SecondHead
    ∷ faults.LateSummary ∷ faults.NoResource ∷ faults.LateWork ∷ faults.BlockNumber ∷ faults.NoUsage ∷ faults.AfterFoot ∷ faults.NoFoot
    ∷ faults.SummaryTwice ∷ faults.ManySummaries ∷ faults.LongBlock ∷ faults.FootLines ∷ faults.FootSummaries ∷ faults.FootBlocks
    ∷ faults.Read ∷ faults.Reads ∷ []

-- the fault of a file is read from the cells behind its line
abbrev pub ReadsFault : List (List ℕ) → Option FileFault → Type 0
ReadsFault row result = (f : FileFault) → is_printed_fault f ≡ true
    → drop 7 row ≡ name_of f ∷ map cell_text (column_cells (column_named f)) → result ≡ Some f

-- how a file ended is read from the cells behind its blocks
abbrev pub ReadsOutcome : List (List ℕ) → Option Outcome → Type 0
ReadsOutcome row result = (o : Outcome) → list_all is_cell (outcome_cells o) ≡ true
    → drop 5 row ≡ map cell_text (outcome_cells o) → result ≡ Some o

-- there is a value, and it is such
abbrev pub IsSome : {A : Type 0} → Option A → (A → Type 0) → Type 0
IsSome None such = ⊥
IsSome (Some x) such = such x

-- the kind of the lines of which there are many
abbrev pub is_hot : LineKind → Bool
is_hot kinds.Ledger = true
is_hot _ = false
