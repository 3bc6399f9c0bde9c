-- The lines of a statement: their cells, and by these their texts and which of them a statement may have.
use Rattle.std.specs.Prelude.{ℕ, Bool, List, [], ◌∷◌, ◌++◌, Option, Some, None, map}
use Rattle.std.specs.List.{list_all, join_with_byte}
use Rattle.dsr_events.specs.meaning.Names.{column_named}
use Rattle.dsr_events.specs.declared.kinds.Column.{Column}
use Rattle.dsr_events.specs.declared.fault.Outcome.{Outcome}
use Rattle.dsr_events.specs.declared.fault.Outcome.TheVariants as outcomes
use Rattle.dsr_statement.specs.declared.line.Line.{Line}
use Rattle.dsr_statement.specs.declared.line.Line.TheVariants as lines
use Rattle.dsr_statement.specs.declared.line.LineKind.TheVariants as kinds
use Rattle.dsr_ledger.specs.meaning.Bookings.{Key}
use Rattle.dsr_statement.specs.meaning.Digests.{Digest}
use Rattle.dsr_statement.specs.meaning.Cells.{Cell, Name, Number64, Number32, FileNumber, Usages, Amount, OnDay, DaysIn, Identifier, Isrc, Territory, UseType, Currency, PartyName, Stands, Why, Whole, Faulty, FaultName, ColumnName, Sha256, StatusName, cell_text, is_cell}

-- the column, where a fault names one
abbrev pub column_cells : Option Column → List Cell
column_cells None = []
column_cells (Some column) = ColumnName column ∷ []

abbrev pub outcome_cells : Outcome → List Cell
outcome_cells outcomes.Whole = Whole ∷ []
outcome_cells (outcomes.Fault line fault) = Faulty ∷ Number64 line ∷ FaultName fault ∷ column_cells (column_named fault)

-- the cells of a ledger line's key, before others
abbrev pub key_cells : Key → List Cell → List Cell
key_cells key more = Isrc key.isrc ∷ Territory key.territory ∷ UseType key.use_type ∷ Currency key.currency ∷ more

abbrev pub digest_cells : Digest → List Cell
digest_cells digest = Number64 digest.bytes ∷ Sha256 digest.sha256 ∷ []

-- the cells of a line
abbrev pub line_cells : Line → List Cell
line_cells (lines.Report key) =
    Name kinds.Report ∷ Identifier 64 key.message_id ∷ Number32 key.number_of_files ∷ OnDay key.first_day ∷ OnDay key.last_day
    ∷ DaysIn key.first_day key.last_day ∷ []
line_cells lines.NoReport = Name kinds.NoReport ∷ []
line_cells (lines.File place f) =
    Name kinds.File ∷ Number64 place ∷ FileNumber f.number ∷ Stands f.standing ∷ Number64 f.blocks ∷ outcome_cells f.outcome
line_cells (lines.Missing number) = Name kinds.Missing ∷ Number32 number ∷ []
line_cells (lines.Summary d) =
    Name kinds.Summary ∷ Number64 d.file ∷ Identifier 32 d.summary_id ∷ Usages d.stated_usages ∷ Usages d.found_usages
    ∷ Amount d.stated_amount ∷ Amount d.found_amount ∷ []
line_cells (lines.Ledger key usages amount) = Name kinds.Ledger ∷ key_cells key (Usages usages ∷ Amount amount ∷ [])
line_cells (lines.Party key p) = Name kinds.Party ∷ key_cells key (PartyName p.party ∷ Amount p.amount ∷ [])
line_cells (lines.Unclaimed key amount) = Name kinds.Unclaimed ∷ key_cells key (Amount amount ∷ [])
line_cells (lines.Reject r) =
    Name kinds.Reject ∷ Number64 r.file ∷ Number64 r.position ∷ Identifier 32 r.block_id ∷ Why r.reason ∷ []
line_cells (lines.Layout digest) = Name kinds.Layout ∷ digest_cells digest
line_cells (lines.Input place digest) = Name kinds.Input ∷ Number64 place ∷ digest_cells digest
line_cells (lines.End count status) = Name kinds.End ∷ Number64 count ∷ StatusName status ∷ []

-- what the cells of a line print
abbrev pub cell_texts : Line → List (List ℕ)
cell_texts l = map cell_text (line_cells l)

-- the text of a line, without its line feed
abbrev pub line_text : Line → List ℕ
line_text l = join_with_byte 9 (cell_texts l)

-- the bytes of a line
abbrev pub line_bytes : Line → List ℕ
line_bytes l = line_text l ++ 10 ∷ []

-- each cell is spelled as in a report and in its range
abbrev pub is_line : Line → Bool
is_line l = list_all is_cell (line_cells l)
