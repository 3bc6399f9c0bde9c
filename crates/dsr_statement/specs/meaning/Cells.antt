-- The cells of lines: what each prints, and which are spelled as in a report and in their range.
use Rattle.std.specs.Prelude.{ℕ, suc, ◌^◌, ◌+◌, ◌&&◌, ◌==◌, nat_lt, not, Bool, true, false, List, Option, Some, None, ℤ, pos, negsuc, ◌+ℤ◌, ◌-ℤ◌, codes, decimal, unsigned_abs}
use Rattle.std.specs.Fmt.{signed_decimal}
use Rattle.std.specs.List.{list_all}
use Rattle.dsr_cells.specs.meaning.Days.{CivilDay, day_number, is_civil_day}
use Rattle.dsr_cells.specs.meaning.Texts.{is_identifier_text, is_territory_text, is_use_type_text, is_currency_text, is_isrc_text}
use Rattle.dsr_cells.specs.meaning.Written.{written, written_day}
use Rattle.dsr_events.specs.meaning.Names.{column_name, name_of}
use Rattle.dsr_events.specs.declared.fault.FileFault.{FileFault}
use Rattle.dsr_events.specs.declared.fault.FileFault.TheVariants as faults
pub use Rattle.dsr_statement.specs.declared.cell.Cell.{Cell}
pub use Rattle.dsr_statement.specs.declared.cell.Cell.TheVariants.{Name, Number64, Number32, FileNumber, Usages, Amount, OnDay, DaysIn, Identifier, Isrc, Territory, UseType, Currency, PartyName, Stands, Why, Whole, Faulty, FaultName, ColumnName, Sha256, StatusName}
use Rattle.dsr_statement.specs.meaning.Digests.{is_sha256_text}
use Rattle.dsr_statement.specs.meaning.Names.{kind_name, standing_name, reason_name, status_name}

-- the number of days from the first to the last, inclusive
abbrev pub days_in : CivilDay → CivilDay → ℤ
days_in first last = (day_number last -ℤ day_number first) +ℤ pos 1

-- an amount as it is printed
unfoldable pub amount_cell : ℤ → List ℕ
amount_cell amount = written amount

abbrev pub cell_text : Cell → List ℕ
cell_text (Name kind) = kind_name kind
cell_text (Number64 n) = decimal n
cell_text (Number32 n) = decimal n
cell_text (FileNumber None) = codes "-"
cell_text (FileNumber (Some n)) = decimal n
cell_text (Usages z) = signed_decimal z
cell_text (Amount z) = amount_cell z
cell_text (OnDay d) = written_day d
cell_text (DaysIn first last) = signed_decimal (days_in first last)
cell_text (Identifier most text) = text
cell_text (Isrc text) = text
cell_text (Territory text) = text
cell_text (UseType text) = text
cell_text (Currency text) = text
cell_text (PartyName text) = text
cell_text (Stands s) = standing_name s
cell_text (Why r) = reason_name r
cell_text Whole = codes "Whole"
cell_text Faulty = codes "Fault"
cell_text (FaultName f) = name_of f
cell_text (ColumnName c) = column_name c
cell_text (Sha256 text) = text
cell_text (StatusName s) = status_name s

-- a text without a TAB
abbrev pub has_no_tab : List ℕ → Bool
has_no_tab text = list_all (λ b. not (b == 9)) text

-- in the range of 128 bits
abbrev pub are_usages : ℤ → Bool
are_usages (pos n) = nat_lt n (2 ^ 127)
are_usages (negsuc n) = nat_lt (suc n) (2 ^ 127 + 1)

-- units below 2 ^ 123 in absolute value
abbrev pub is_amount : ℤ → Bool
is_amount amount = nat_lt (unsigned_abs amount) (2 ^ 123)

-- at least one day
abbrev pub are_days : ℤ → Bool
are_days (pos n) = nat_lt 0 n && nat_lt n (2 ^ 64)
are_days (negsuc n) = false

abbrev pub is_printed_fault : FileFault → Bool
is_printed_fault faults.Memory = false
is_printed_fault _ = true

abbrev pub is_cell : Cell → Bool
is_cell (Name kind) = true
is_cell (Number64 n) = nat_lt n (2 ^ 64)
is_cell (Number32 n) = nat_lt n (2 ^ 32)
is_cell (FileNumber None) = true
is_cell (FileNumber (Some n)) = nat_lt n (2 ^ 32)
is_cell (Usages z) = are_usages z
is_cell (Amount z) = is_amount z
is_cell (OnDay d) = is_civil_day d
is_cell (DaysIn first last) = are_days (days_in first last)
is_cell (Identifier most text) = is_identifier_text most text
is_cell (Isrc text) = is_isrc_text text
is_cell (Territory text) = is_territory_text text
is_cell (UseType text) = is_use_type_text text
is_cell (Currency text) = is_currency_text text
is_cell (PartyName text) = has_no_tab text
is_cell (Stands s) = true
is_cell (Why r) = true
is_cell Whole = true
is_cell Faulty = true
is_cell (FaultName f) = is_printed_fault f
is_cell (ColumnName c) = true
is_cell (Sha256 text) = is_sha256_text text
is_cell (StatusName s) = true
