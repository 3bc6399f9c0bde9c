-- A text is that of one line.
use Rattle.std.proofs.Common.{◌≡◌, ◌^◌, ℕ, List, [], ◌∷◌, get_or, map, true, cond, refl, ap, sym, ◌∙◌, nat_lt, Option, Some, None}
use Rattle.std.specs.Prelude.{codes, ◌&&◌}
use Rattle.std.specs.List.{list_all}
use Rattle.std.specs.Option.{option_map}
use Rattle.std.specs.Str.{bytes_eq}
use Rattle.std.proofs.lemmas.Bool.{and_parts}
use Rattle.dsr_cells.specs.meaning.Cells.{cells}
use Rattle.dsr_cells.specs.meaning.Days.{day_of}
use Rattle.dsr_events.specs.meaning.Names.{column_name, column_named, name_of}
use Rattle.dsr_events.specs.declared.kinds.Column.{Column}
use Rattle.dsr_events.specs.declared.kinds.Column.TheVariants.{MessageId}
use Rattle.dsr_events.specs.declared.fault.FileFault.{FileFault}
use Rattle.dsr_events.specs.declared.fault.FileFault.TheVariants as file_faults
use Rattle.dsr_events.specs.declared.fault.Outcome.{Outcome}
use Rattle.dsr_events.specs.declared.fault.Outcome.TheVariants as outcomes
use Rattle.dsr_ledger.specs.meaning.Bookings.{Key}
use Rattle.dsr_statement.specs.declared.line.Line.{Line}
use Rattle.dsr_statement.specs.declared.line.Line.TheVariants as lines
use Rattle.dsr_statement.specs.meaning.Names.{standing_name, reason_name, status_name}
use Rattle.dsr_statement.specs.meaning.Cells.{Cell, Number64, Number32, FileNumber, Usages, Amount, OnDay, Stands, Why, StatusName, cell_text, is_cell, is_printed_fault}
use Rattle.dsr_statement.specs.meaning.Faults.{named}
use Rattle.dsr_statement.specs.meaning.Lines.{line_cells, cell_texts, is_line, column_cells, outcome_cells}
use Rattle.dsr_statement.specs.meaning.Readings.{Spells}
use Rattle.dsr_statement.specs.inner.Lenient.{Reads, kind_of, standings_in_order, reasons_in_order, statuses_in_order, columns_in_order, plain_faults}
use Rattle.dsr_statement.specs.inner.Numbers.{number_in, usages_in, amount_in, ◌>>=◌}
use Rattle.dsr_statement.proofs.Again.{kind_again, name_first, row_again}
use Rattle.dsr_statement.proofs.Rows.{nth, all_behind, read_64, read_32, usages_read, amount_read, day_read, reason_read, standing_read, status_read, file_number_read}

-- two values of a cell that print the same are the same, if a value is read from its text
same : {A : Type 0} (cell : A → Cell) (from : List ℕ → Option A) → ((text : List ℕ) → Reads cell text (from text))
    → (x y : A) → is_cell (cell x) ≡ true → is_cell (cell y) ≡ true → cell_text (cell x) ≡ cell_text (cell y) → x ≡ y
same cell from reads x y p q e =
    let first = reads (cell_text (cell x)) x p refl in let other = reads (cell_text (cell x)) y q e in cc

file_number_from : List ℕ → Option (Option ℕ)
file_number_from text = cond (bytes_eq text (codes "-")) (Some None) (option_map (λ (n : ℕ). Some n) (number_in (2 ^ 32) text))

file_number_reads : (text : List ℕ) → Reads FileNumber text (file_number_from text)
unfolding file_number_from
file_number_reads text =
    file_number_read text (bytes_eq text (codes "-")) (number_in (2 ^ 32) text) (file_number_from text) refl (read_32 text _ refl)
    (λ h. rw h refl) (λ n h g. rw (h, g) refl)

column_again : (c : Column) → named column_name columns_in_order (column_name c) ≡ Some c
column_again MessageId = refl
column_again _ = refl

-- the fault that a name spells, and a column where there is one
fault_from : List (List ℕ) → Option FileFault
fault_from (name ∷ []) = named name_of plain_faults name
fault_from (name ∷ column ∷ []) =
    named column_name columns_in_order column
    >>= (λ c. cond (bytes_eq name (codes "MissingCell")) (Some (file_faults.MissingCell c)) (Some (file_faults.BadCell c)))
fault_from _ = None

fault_again : (f : FileFault) → is_printed_fault f ≡ true → fault_from (name_of f ∷ map cell_text (column_cells (column_named f))) ≡ Some f
unfolding fault_from
fault_again (file_faults.MissingCell c) h = rw (column_again c) refl
fault_again (file_faults.BadCell c) h = rw (column_again c) refl
fault_again file_faults.Memory h = cc
fault_again _ h = refl

same_fault : (f g : FileFault) → is_printed_fault f ≡ true → is_printed_fault g ≡ true
    → name_of f ∷ map cell_text (column_cells (column_named f)) ≡ name_of g ∷ map cell_text (column_cells (column_named g)) → f ≡ g
same_fault f g p q e = let first = fault_again f p in let other = ap fault_from e ∙ fault_again g q in cc

same_outcome : (o p : Outcome) → list_all is_cell (outcome_cells o) ≡ true → list_all is_cell (outcome_cells p) ≡ true
    → map cell_text (outcome_cells o) ≡ map cell_text (outcome_cells p) → o ≡ p
same_outcome outcomes.Whole outcomes.Whole h g e = refl
same_outcome outcomes.Whole (outcomes.Fault n f) h g e = cc
same_outcome (outcomes.Fault n f) outcomes.Whole h g e = cc
same_outcome (outcomes.Fault n f) (outcomes.Fault m k) h g e =
    let a = and_parts (nat_lt n (2 ^ 64)) (is_printed_fault f && list_all is_cell (column_cells (column_named f))) h in
    let b = and_parts (nat_lt m (2 ^ 64)) (is_printed_fault k && list_all is_cell (column_cells (column_named k))) g in
    let number = same Number64 (number_in (2 ^ 64)) (λ t. read_64 t _ refl) n m a.0 b.0 (ap (λ r. get_or r 1 []) e) in
    let fault = same_fault f k (and_parts (is_printed_fault f) _ a.1).0 (and_parts (is_printed_fault k) _ b.1).0 (ap behind e) in
    λ i. outcomes.Fault (number i) (fault i)
  where
    behind : List (List ℕ) → List (List ℕ)
    behind (x ∷ y ∷ more) = more
    behind _ = []

-- two lines of one kind with the same texts of cells are the same
one_kind : (a b : Line) → kind_of a ≡ kind_of b → is_line a ≡ true → is_line b ≡ true → cell_texts a ≡ cell_texts b → a ≡ b
one_kind (lines.Report k) (lines.Report j) s h g e =
    let at = λ (i : ℕ). ap (λ r. get_or r i []) e in
    let first = λ (i : ℕ). nth (line_cells (lines.Report k)) i h in let other = λ (i : ℕ). nth (line_cells (lines.Report j)) i g in
    let id : k.message_id ≡ j.message_id = at 1 in
    let files = same Number32 (number_in (2 ^ 32)) (λ t. read_32 t _ refl) k.number_of_files j.number_of_files (first 2) (other 2) (at 2) in
    let from = same OnDay day_of (λ t. day_read t _ refl) k.first_day j.first_day (first 3) (other 3) (at 3) in
    let to = same OnDay day_of (λ t. day_read t _ refl) k.last_day j.last_day (first 4) (other 4) (at 4) in
    λ i. lines.Report (record { message_id = id i; number_of_files = files i; first_day = from i; last_day = to i })
one_kind lines.NoReport lines.NoReport s h g e = refl
one_kind (lines.File p f) (lines.File q k) s h g e =
    let at = λ (i : ℕ). ap (λ r. get_or r i []) e in
    let first = λ (i : ℕ). nth (line_cells (lines.File p f)) i h in let other = λ (i : ℕ). nth (line_cells (lines.File q k)) i g in
    let place = same Number64 (number_in (2 ^ 64)) (λ t. read_64 t _ refl) p q (first 1) (other 1) (at 1) in
    let number = same FileNumber file_number_from file_number_reads f.number k.number (first 2) (other 2) (at 2) in
    let standing = same Stands (named standing_name standings_in_order) (λ t. standing_read t _ refl) f.standing k.standing refl refl (at 3) in
    let blocks = same Number64 (number_in (2 ^ 64)) (λ t. read_64 t _ refl) f.blocks k.blocks (first 4) (other 4) (at 4) in
    let outcome = same_outcome f.outcome k.outcome (all_behind (line_cells (lines.File p f)) 5 h) (all_behind (line_cells (lines.File q k)) 5 g) (ap behind e) in
    λ i. lines.File (place i) (record { number = number i; standing = standing i; blocks = blocks i; outcome = outcome i })
  where
    behind : List (List ℕ) → List (List ℕ)
    behind (a ∷ b ∷ c ∷ d ∷ e ∷ more) = more
    behind _ = []
one_kind (lines.Missing n) (lines.Missing m) s h g e =
    ap (λ (x : ℕ). lines.Missing x) (same Number32 (number_in (2 ^ 32)) (λ t. read_32 t _ refl) n m (nth (line_cells (lines.Missing n)) 1 h) (nth (line_cells (lines.Missing m)) 1 g)
    (ap (λ r. get_or r 1 []) e))
one_kind (lines.Summary d) (lines.Summary c) s h g e =
    let at = λ (i : ℕ). ap (λ r. get_or r i []) e in
    let first = λ (i : ℕ). nth (line_cells (lines.Summary d)) i h in let other = λ (i : ℕ). nth (line_cells (lines.Summary c)) i g in
    let file = same Number64 (number_in (2 ^ 64)) (λ t. read_64 t _ refl) d.file c.file (first 1) (other 1) (at 1) in
    let id : d.summary_id ≡ c.summary_id = at 2 in
    let stated = same Usages usages_in (λ t. usages_read t _ refl) d.stated_usages c.stated_usages (first 3) (other 3) (at 3) in
    let found = same Usages usages_in (λ t. usages_read t _ refl) d.found_usages c.found_usages (first 4) (other 4) (at 4) in
    let stated_sum = same Amount amount_in (λ t. amount_read t _ refl) d.stated_amount c.stated_amount (first 5) (other 5) (at 5) in
    let found_sum = same Amount amount_in (λ t. amount_read t _ refl) d.found_amount c.found_amount (first 6) (other 6) (at 6) in
    λ i. lines.Summary (record {
      file = file i;
      summary_id = id i;
      stated_usages = stated i;
      found_usages = found i;
      stated_amount = stated_sum i;
      found_amount = found_sum i;
    })
one_kind (lines.Ledger k u x) (lines.Ledger j v y) s h g e =
    let at = λ (i : ℕ). ap (λ r. get_or r i []) e in
    let key = same_key k j (at 1) (at 2) (at 3) (at 4) in
    let usages = same Usages usages_in (λ t. usages_read t _ refl) u v (nth (line_cells (lines.Ledger k u x)) 5 h) (nth (line_cells (lines.Ledger j v y)) 5 g) (at 5) in
    let amount = same Amount amount_in (λ t. amount_read t _ refl) x y (nth (line_cells (lines.Ledger k u x)) 6 h) (nth (line_cells (lines.Ledger j v y)) 6 g) (at 6) in
    λ i. lines.Ledger (key i) (usages i) (amount i)
  where
    same_key : (k j : Key) → k.isrc ≡ j.isrc → k.territory ≡ j.territory → k.use_type ≡ j.use_type → k.currency ≡ j.currency → k ≡ j
    same_key k j a b c d = λ i. record { isrc = a i; territory = b i; use_type = c i; currency = d i }
one_kind (lines.Party k p) (lines.Party j q) s h g e =
    let at = λ (i : ℕ). ap (λ r. get_or r i []) e in
    let isrc : k.isrc ≡ j.isrc = at 1 in let territory : k.territory ≡ j.territory = at 2 in
    let use_type : k.use_type ≡ j.use_type = at 3 in let currency : k.currency ≡ j.currency = at 4 in
    let party : p.party ≡ q.party = at 5 in
    let amount = same Amount amount_in (λ t. amount_read t _ refl) p.amount q.amount (nth (line_cells (lines.Party k p)) 6 h) (nth (line_cells (lines.Party j q)) 6 g) (at 6) in
    λ i. lines.Party (record { isrc = isrc i; territory = territory i; use_type = use_type i; currency = currency i }) (record { party = party i; amount = amount i })
one_kind (lines.Unclaimed k x) (lines.Unclaimed j y) s h g e =
    let at = λ (i : ℕ). ap (λ r. get_or r i []) e in
    let isrc : k.isrc ≡ j.isrc = at 1 in let territory : k.territory ≡ j.territory = at 2 in
    let use_type : k.use_type ≡ j.use_type = at 3 in let currency : k.currency ≡ j.currency = at 4 in
    let amount = same Amount amount_in (λ t. amount_read t _ refl) x y (nth (line_cells (lines.Unclaimed k x)) 5 h) (nth (line_cells (lines.Unclaimed j y)) 5 g) (at 5) in
    λ i. lines.Unclaimed (record { isrc = isrc i; territory = territory i; use_type = use_type i; currency = currency i }) (amount i)
one_kind (lines.Reject r) (lines.Reject q) s h g e =
    let at = λ (i : ℕ). ap (λ r. get_or r i []) e in
    let first = λ (i : ℕ). nth (line_cells (lines.Reject r)) i h in let other = λ (i : ℕ). nth (line_cells (lines.Reject q)) i g in
    let file = same Number64 (number_in (2 ^ 64)) (λ t. read_64 t _ refl) r.file q.file (first 1) (other 1) (at 1) in
    let place = same Number64 (number_in (2 ^ 64)) (λ t. read_64 t _ refl) r.position q.position (first 2) (other 2) (at 2) in
    let id : r.block_id ≡ q.block_id = at 3 in
    let why = same Why (named reason_name reasons_in_order) (λ t. reason_read t _ refl) r.reason q.reason refl refl (at 4) in
    λ i. lines.Reject (record { file = file i; position = place i; block_id = id i; reason = why i })
one_kind (lines.Layout d) (lines.Layout c) s h g e =
    let at = λ (i : ℕ). ap (λ r. get_or r i []) e in
    let bytes = same Number64 (number_in (2 ^ 64)) (λ t. read_64 t _ refl) d.bytes c.bytes (nth (line_cells (lines.Layout d)) 1 h) (nth (line_cells (lines.Layout c)) 1 g) (at 1) in
    let sha256 : d.sha256 ≡ c.sha256 = at 2 in
    λ i. lines.Layout (record { bytes = bytes i; sha256 = sha256 i })
one_kind (lines.Input p d) (lines.Input q c) s h g e =
    let at = λ (i : ℕ). ap (λ r. get_or r i []) e in
    let first = λ (i : ℕ). nth (line_cells (lines.Input p d)) i h in let other = λ (i : ℕ). nth (line_cells (lines.Input q c)) i g in
    let place = same Number64 (number_in (2 ^ 64)) (λ t. read_64 t _ refl) p q (first 1) (other 1) (at 1) in
    let bytes = same Number64 (number_in (2 ^ 64)) (λ t. read_64 t _ refl) d.bytes c.bytes (first 2) (other 2) (at 2) in
    let sha256 : d.sha256 ≡ c.sha256 = at 3 in
    λ i. lines.Input (place i) (record { bytes = bytes i; sha256 = sha256 i })
one_kind (lines.End n s) (lines.End m t) k h g e =
    let at = λ (i : ℕ). ap (λ r. get_or r i []) e in
    let count = same Number64 (number_in (2 ^ 64)) (λ t. read_64 t _ refl) n m (nth (line_cells (lines.End n s)) 1 h) (nth (line_cells (lines.End m t)) 1 g) (at 1) in
    let status = same StatusName (named status_name statuses_in_order) (λ t. status_read t _ refl) s t refl refl (at 2) in
    λ i. lines.End (count i) (status i)
one_kind _ _ s h g e = cc

-- the cells of two lines with one text are the same
pub one_line : (text : List ℕ) (a b : Line) → Spells text a → Spells text b → a ≡ b
one_line text a b s t =
    let rows : cell_texts a ≡ cell_texts b = sym (row_again a s.valid) ∙ ap cells (s.same ∙ sym t.same) ∙ row_again b t.valid in
    let first = kind_again (kind_of a) in
    let names = sym (name_first a) ∙ ap (λ r. get_or r 0 []) rows ∙ name_first b in
    let other = kind_again (kind_of b) in
    let kinds : kind_of a ≡ kind_of b = cc in
    one_kind a b kinds s.valid t.valid rows
