-- The tables of the records: the columns of each kind, those that may be empty, and how each is spelled.
use Rattle.std.specs.Prelude.{ℕ, nat_le, Bool, true, false, if◌then◌else◌, List, [], ◌∷◌, Option, Some, None, is_some, slice_get, int_le}
use Rattle.std.specs.Int.{is_in_range}
use Rattle.std.specs.List.{list_all}
use Rattle.std.specs.Option.{unwrap_or}
use Rattle.dsr_cells.specs.meaning.Days.{CivilDay, day_of, day_number}
use Rattle.dsr_cells.specs.meaning.Numbers.{number_of, usages_of, amount_of, share_of}
use Rattle.dsr_cells.specs.meaning.Texts.{is_identifier_text, is_territory_text, is_use_type_text, is_currency_text}
use Rattle.dsr_cells.specs.meaning.Cells.{raw_parts}
use Rattle.dsr_events.specs.declared.kinds.Column.{Column}
use Rattle.dsr_events.specs.declared.kinds.Column.TheVariants.{MessageId, FileNumber, NumberOfFiles, UsageStartDate, UsageEndDate, Sender, Recipient, SummaryRecordId, Territory, UseType, Currency, Usages, Amount, BlockId, Isrc, Titles, Artists, WorkId, Title, Parties, Shares, NumberOfLinesInFile, NumberOfSummaryRecords, NumberOfBlocksInFile}
use Rattle.dsr_events.specs.declared.kinds.Kind.{Kind}
use Rattle.dsr_events.specs.declared.kinds.Kind.TheVariants.{Head, Summary, Resource, Work, Usage, Foot, Skipped}

-- the cell of a column, given the cells of a line's columns
abbrev pub cell_of : List (Option (List ℕ)) → ℕ → Option (List ℕ)
cell_of row i = unwrap_or (slice_get row i) None

-- the text of a column; a missing cell reads as empty
abbrev pub text_of : List (Option (List ℕ)) → ℕ → List ℕ
text_of row i = unwrap_or (cell_of row i) []

-- the columns of each kind, in order
abbrev pub columns_of : Kind → List Column
columns_of Head = MessageId ∷ FileNumber ∷ NumberOfFiles ∷ UsageStartDate ∷ UsageEndDate ∷ Sender ∷ Recipient ∷ []
columns_of Summary = SummaryRecordId ∷ Territory ∷ UseType ∷ Currency ∷ Usages ∷ Amount ∷ []
columns_of Resource = BlockId ∷ Isrc ∷ Titles ∷ Artists ∷ []
columns_of Work = BlockId ∷ WorkId ∷ Title ∷ Parties ∷ Shares ∷ []
columns_of Usage = BlockId ∷ SummaryRecordId ∷ Usages ∷ Amount ∷ []
columns_of Foot = NumberOfLinesInFile ∷ NumberOfSummaryRecords ∷ NumberOfBlocksInFile ∷ []
columns_of Skipped = []

-- the columns that may be empty or missing
abbrev pub may_be_empty : Column → Bool
may_be_empty Sender = true
may_be_empty Recipient = true
may_be_empty Isrc = true
may_be_empty Titles = true
may_be_empty Artists = true
may_be_empty WorkId = true
may_be_empty Title = true
may_be_empty Parties = true
may_be_empty Shares = true
may_be_empty _ = false

-- a file number, or the number of files: 1 to 9999
abbrev pub if_file_number : Option ℕ → Option ℕ
if_file_number None = None
if_file_number (Some n) = if is_in_range 1 9999 n then Some n else None

abbrev pub file_number_of : List ℕ → Option ℕ
file_number_of text = if_file_number (number_of text)

-- there is a second number, and it is at least the first if there is one
abbrev pub is_not_below : Option ℕ → Option ℕ → Bool
is_not_below (Some low) (Some n) = nat_le low n
is_not_below None (Some n) = true
is_not_below low None = false

-- there is a second day, and it is not before the first if there is one
abbrev pub is_not_before : Option CivilDay → Option CivilDay → Bool
is_not_before (Some first) (Some day) = int_le (day_number first) (day_number day)
is_not_before None (Some day) = true
is_not_before first None = false

abbrev pub is_share : List ℕ → Bool
is_share part = is_some (share_of part)

-- whether the text is spelled as the column requires; the row has the cells of the line's columns
abbrev pub is_spelled : List (Option (List ℕ)) → Column → List ℕ → Bool
is_spelled row MessageId text = is_identifier_text 64 text
is_spelled row FileNumber text = is_some (file_number_of text)
is_spelled row NumberOfFiles text = is_not_below (file_number_of (text_of row 1)) (file_number_of text)
is_spelled row UsageStartDate text = is_some (day_of text)
is_spelled row UsageEndDate text = is_not_before (day_of (text_of row 3)) (day_of text)
is_spelled row Sender text = true
is_spelled row Recipient text = true
is_spelled row SummaryRecordId text = is_identifier_text 32 text
is_spelled row Territory text = is_territory_text text
is_spelled row UseType text = is_use_type_text text
is_spelled row Currency text = is_currency_text text
is_spelled row Usages text = is_some (usages_of text)
is_spelled row Amount text = is_some (amount_of text)
is_spelled row BlockId text = is_identifier_text 32 text
is_spelled row Isrc text = true
is_spelled row Titles text = true
is_spelled row Artists text = true
is_spelled row WorkId text = true
is_spelled row Title text = true
is_spelled row Parties text = true
is_spelled row Shares text = list_all is_share (raw_parts text)
is_spelled row NumberOfLinesInFile text = is_some (number_of text)
is_spelled row NumberOfSummaryRecords text = is_some (number_of text)
is_spelled row NumberOfBlocksInFile text = is_some (number_of text)
