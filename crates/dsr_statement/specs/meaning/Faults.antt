-- What is tested of a line before its cells are read: its kind, and how many cells it has.
use Rattle.std.specs.Prelude.{ℕ, ◌==◌, not, Bool, false, if◌then◌else◌, List, [], ◌∷◌, length, Option, Some, None, codes, find}
use Rattle.std.specs.Str.{bytes_eq}
use Rattle.dsr_statement.specs.declared.line.LineKind.{LineKind}
use Rattle.dsr_statement.specs.declared.line.LineKind.TheVariants as kinds
use Rattle.dsr_statement.specs.declared.fault.StatementFault.{StatementFault}
use Rattle.dsr_statement.specs.declared.fault.StatementFault.TheVariants as faults
use Rattle.dsr_statement.specs.meaning.Names.{kind_name}

-- the first of these that has this name
abbrev pub named : {A : Type 0} → (A → List ℕ) → List A → List ℕ → Option A
named name all text = find (λ x. bytes_eq text (name x)) all

abbrev pub kinds_in_order : List LineKind
kinds_in_order =
    kinds.Report ∷ kinds.NoReport ∷ kinds.File ∷ kinds.Missing ∷ kinds.Summary ∷ kinds.Ledger ∷ kinds.Party ∷ kinds.Unclaimed
    ∷ kinds.Reject ∷ kinds.Layout ∷ kinds.Input ∷ kinds.End ∷ []

unfoldable pub kind_in : List ℕ → Option LineKind
kind_in text = named kind_name kinds_in_order text

-- a file that ended whole has one more cell for that, another three or four
abbrev pub has_file_cells : List (List ℕ) → Bool
has_file_cells (name ∷ place ∷ number ∷ standing ∷ blocks ∷ outcome ∷ []) = not (bytes_eq outcome (codes "Fault"))
has_file_cells (name ∷ place ∷ number ∷ standing ∷ blocks ∷ outcome ∷ line ∷ fault ∷ []) = not (bytes_eq outcome (codes "Whole"))
has_file_cells (name ∷ place ∷ number ∷ standing ∷ blocks ∷ outcome ∷ line ∷ fault ∷ column ∷ []) = not (bytes_eq outcome (codes "Whole"))
has_file_cells _ = false

-- a line of this kind has as many cells, its name among them
abbrev pub has_cells : LineKind → List (List ℕ) → Bool
has_cells kinds.Report cells = length cells == 6
has_cells kinds.NoReport cells = length cells == 1
has_cells kinds.File cells = has_file_cells cells
has_cells kinds.Missing cells = length cells == 2
has_cells kinds.Summary cells = length cells == 7
has_cells kinds.Ledger cells = length cells == 7
has_cells kinds.Party cells = length cells == 7
has_cells kinds.Unclaimed cells = length cells == 6
has_cells kinds.Reject cells = length cells == 5
has_cells kinds.Layout cells = length cells == 3
has_cells kinds.Input cells = length cells == 4
has_cells kinds.End cells = length cells == 3

abbrev pub count_fault : List (List ℕ) → Option LineKind → Option StatementFault
count_fault cells None = Some faults.UnknownLine
count_fault cells (Some kind) = if has_cells kind cells then None else Some faults.Cells

-- the fault of the number of a line's cells
abbrev pub shape_fault : List (List ℕ) → Option StatementFault
shape_fault [] = Some faults.UnknownLine
shape_fault (name ∷ cells) = count_fault (name ∷ cells) (kind_in name)
