-- The line for totals that cannot be had, and the exit status.
use Rattle.std.specs.Prelude.{ℕ, List, [], ◌∷◌, ◌++◌, codes, decimal}
use Rattle.dsr_command.specs.Faults.{cannot_read_line, line_of, unopened_line, unopened_status}
use Rattle.dsr_statement.specs.declared.fault.StatementFault.{StatementFault}
use Rattle.dsr_statement.specs.declared.fault.StatementFault.TheVariants as fault
use Rattle.dsr_totals.specs.declared.lists.InputError.{InputError}
use Rattle.dsr_totals.specs.declared.lists.InputError.TheVariants.{Open, Read}
use Rattle.dsr_sums.specs.declared.answer.TotalsError.{TotalsError}
use Rattle.dsr_sums.specs.declared.answer.TotalsError.TheVariants.{Refused, OutOfRange, Memory}

-- the name of the program
abbrev pub dsr_totals : List ℕ
dsr_totals = codes "dsr_totals"

-- the name of a statement's fault
abbrev pub fault_text : StatementFault → List ℕ
fault_text fault.Read = codes "Read"
fault_text fault.LongLine = codes "LongLine"
fault_text fault.NotUtf8 = codes "NotUtf8"
fault_text fault.UnknownLine = codes "UnknownLine"
fault_text fault.Cells = codes "Cells"
fault_text fault.Spelling = codes "Spelling"
fault_text fault.Place = codes "Place"
fault_text fault.Sum = codes "Sum"
fault_text fault.NoReport = codes "NoReport"
fault_text fault.Cut = codes "Cut"
fault_text fault.Seal = codes "Seal"
fault_text fault.Unsealed = codes "Unsealed"
fault_text (fault.SameMessage place) = codes "SameMessage"
fault_text (fault.Twice place) = codes "Twice"
fault_text fault.NotGiven = codes "NotGiven"
fault_text fault.Remarks = codes "Remarks"

-- what stands between the name of a fault and that of the earlier statement that it names, if it names one
abbrev pub of_other : StatementFault → List ℕ
of_other (fault.SameMessage place) = codes " of "
of_other (fault.Twice place) = codes " of "
of_other _ = []

-- the line for a statement that is refused: its name, the number of the line, from 1, the name of the fault, and what stands
-- behind that, which ends with the name of another statement
abbrev pub refusal_line : List ℕ → ℕ → List ℕ → List ℕ → List ℕ → List ℕ
refusal_line name line why of other =
    codes "dsr_totals: " ++ (name ++ (codes ": line " ++ (decimal line ++ (codes ": " ++ (why ++ (of ++ (other ++ 10 ∷ [])))))))

-- the line for totals that cannot be had; the names are those of the statement that is refused, if one is, and of the earlier one
-- that its fault names
abbrev pub no_totals_line : List ℕ → List ℕ → TotalsError → List ℕ
no_totals_line name other (Refused place line why) = refusal_line name line (fault_text why) (of_other why) other
no_totals_line name other OutOfRange = line_of dsr_totals (codes "total out of range")
no_totals_line name other Memory = line_of dsr_totals (codes "out of memory")

-- the exit status: 1 if a statement is refused
abbrev pub no_totals_status : TotalsError → ℕ
no_totals_status (Refused place line why) = 1
no_totals_status OutOfRange = 3
no_totals_status Memory = 3

-- the line for statements or lists that are not opened, or a list that is not read
abbrev pub unread_line : InputError → List ℕ
unread_line (Open error) = unopened_line dsr_totals error
unread_line (Read list) = cannot_read_line dsr_totals list

-- the exit status: 2 unless memory was refused
abbrev pub unread_status : InputError → ℕ
unread_status (Open error) = unopened_status error
unread_status (Read list) = 2
