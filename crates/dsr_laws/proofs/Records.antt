-- What the record of a line has.
use Rattle.dsr_laws.proofs.Common.{AllByRecursion, CivilDay, Column, Err, Head, IsUtf8-nil, Kind, LayoutTable, List, None, Ok, Option, Record, RecordFault, Result, RoleLine, Some, Summary, Usage, [], amount_of, arith, cell_in, cell_of, cells, cells_at, column_fault, columns_of, cond_both, day_number, day_of, day_of_parts, day_or_first, decimal_of, decimal_of_parts, digits_sum, digits_sum-lt, each_at, eqb, false, first_fault, if_file_number, int_le, ints, is_civil_day, is_currency_text, is_digits, is_identifier_text, is_not_before, is_skipped, is_some, is_spelled, is_territory_text, is_use_type_text, length, map, may_be_empty, nat_tests, neg_ℤ, number_of, number_or_zero, or_else, pos, record_by_kind, record_by_role, record_of, refl, role_of, rules, scaled-lt, signed_of, slice_get, slice_split, suc, text_of, true, type_of, unless_fault, unsigned_abs, unwrap_or, usages_of, whole_or_zero, zero, ℕ, ◌*◌, ◌-◌, ◌<◌, ◌^◌, ◌∷◌, ◌≡◌}
use Rattle.std.specs.Prelude.{nat_lt, option_map}
use Rattle.dsr_events.specs.declared.kinds.Kind.TheVariants as kinds
use Rattle.dsr_events.specs.declared.record.Record.TheVariants as of
use Rattle.dsr_records.specs.meaning.Records.{fault_of}
use Rattle.dsr_laws.proofs.Values.{IsText, no_feed, plain, cells_of_line, values_text}

-- a head that a line spells
pub record IsHead (h : Head) : Type 0 where
  pub id : is_identifier_text 64 h.message_id ≡ true
  pub number : h.file_number < 10000
  pub files : h.number_of_files < 10000
  pub first : is_civil_day h.first_day ≡ true
  pub last : is_civil_day h.last_day ≡ true
  pub order : int_le (day_number h.first_day) (day_number h.last_day) ≡ true

-- a summary that a line spells
pub record IsSummary (s : Summary) : Type 0 where
  pub id : is_identifier_text 32 s.id ≡ true
  pub territory : is_territory_text s.territory ≡ true
  pub use_type : is_use_type_text s.use_type ≡ true
  pub currency : is_currency_text s.currency ≡ true
  pub usages : unsigned_abs s.usages < 10 ^ 12
  pub amount : unsigned_abs s.amount < 10 ^ 22

-- a usage that a line spells
pub record IsUsage (u : Usage) : Type 0 where
  pub usages : unsigned_abs u.usages < 10 ^ 12
  pub amount : unsigned_abs u.amount < 10 ^ 22

-- a record that a line spells
abbrev pub IsRecord : Record → Type 0
IsRecord (of.Head h) = IsHead h
IsRecord (of.Summary s) = IsSummary s
IsRecord (of.Resource r) = is_identifier_text 32 r.block_id ≡ true
IsRecord (of.Work w) = AllByRecursion (IsText plain) w.parties
IsRecord (of.Usage u) = IsUsage u
IsRecord (of.Foot f) = Unit {0}
IsRecord of.Skipped = Unit {0}

-- a column that may not be empty, and has no fault, is spelled
or_else_none : {X : Type 0} (a b : Option X) → or_else a b ≡ None → (a ≡ None) × (b ≡ None)
or_else_none a b h = grind arith

cell_spelled : (row : List (Option (List ℕ))) (column : Column) (cell : Option (List ℕ)) → column_fault row column cell ≡ None → may_be_empty column ≡ false
    → is_spelled row column (unwrap_or cell []) ≡ true
cell_spelled row column cell h must = grind arith

abbrev AreSpelled : List (Option (List ℕ)) → List Column → ℕ → Type 0
AreSpelled row [] i = Unit {0}
AreSpelled row (column ∷ columns) i = (may_be_empty column ≡ false → is_spelled row column (text_of row i) ≡ true) × AreSpelled row columns (suc i)

are_spelled : (row : List (Option (List ℕ))) (columns : List Column) (i : ℕ) → first_fault row columns i ≡ None → AreSpelled row columns i
are_spelled row [] i h = tt
are_spelled row (column ∷ columns) i h =
    let two = or_else_none (column_fault row column (cell_of row i)) (first_fault row columns (suc i)) h in
    (cell_spelled row column (cell_of row i) two.0, are_spelled row columns (suc i) two.1)

-- the numbers
file_number_small : (o : Option ℕ) → number_or_zero (if_file_number o) < 10000
file_number_small None = omega arith
file_number_small (Some n) = grind (arith, nat_tests)

pos_small : (most : ℕ) (o : Option ℕ) → number_or_zero o < most → unsigned_abs (whole_or_zero (option_map pos o)) < most
pos_small most o h = grind (arith, ints)

neg_small : (most : ℕ) (o : Option ℕ) → number_or_zero o < most → unsigned_abs (whole_or_zero (option_map (λ n. neg_ℤ (pos n)) o)) < most
neg_small most o h = grind (arith, ints)

signed_small : (spelled : List ℕ → Option ℕ) (most : ℕ) → ((text : List ℕ) → number_or_zero (spelled text) < most) → (text : List ℕ)
    → unsigned_abs (whole_or_zero (signed_of spelled text)) < most
signed_small spelled most h [] = pos_small most (spelled []) (h [])
signed_small spelled most h (c ∷ cs) = grind (arith, neg_small most (spelled cs) (h cs), pos_small most (spelled (c ∷ cs)) (h (c ∷ cs)))

digits_low : (most : ℕ) (text : List ℕ) → is_digits most text ≡ true → digits_sum text < 10 ^ most
digits_low most text e = grind (arith, nat_tests, digits_sum-lt text most)

decimals_low : (text : List ℕ) → is_digits 10 text ≡ true → digits_sum text * 10 ^ (10 - length text) < 10 ^ 10
decimals_low text e = grind (arith, nat_tests, scaled-lt (digits_sum text) (length text) 10, digits_sum-lt text (length text))

parts_small : (ps : List (List ℕ)) → number_or_zero (decimal_of_parts 12 10 ps) < 10 ^ 22
parts_small (w ∷ []) = grind (arith, digits_low 12 w)
parts_small (w ∷ d ∷ []) = grind (arith, digits_low 12 w, decimals_low d)
parts_small _ = omega arith

usages_small : (text : List ℕ) → unsigned_abs (whole_or_zero (usages_of text)) < 10 ^ 12
usages_small = signed_small number_of (10 ^ 12) (λ text. grind (arith, digits_low 12 text))

amount_small : (text : List ℕ) → unsigned_abs (whole_or_zero (amount_of text)) < 10 ^ 22
amount_small = signed_small (decimal_of 12 10) (10 ^ 22) (λ text. parts_small (slice_split (λ b. eqb b 46) text))

-- the days
day_civil : (ps : List (List ℕ)) → is_civil_day (day_or_first (day_of_parts ps)) ≡ true
day_civil (y ∷ m ∷ d ∷ []) = grind arith
day_civil _ = search rules

days_ordered : (a b : Option CivilDay) → is_some a ≡ true → is_not_before a b ≡ true → int_le (day_number (day_or_first a)) (day_number (day_or_first b)) ≡ true
days_ordered a b some h = grind arith

-- the record of the cells of its columns
by_kind : (row : List (Option (List ℕ))) (kind : Kind) → IsText plain (text_of row 3) → AreSpelled row (columns_of kind) 0
    → IsRecord (record_by_kind kind (text_of row))
by_kind row kinds.Head t h = record {
  id = h.0 refl;
  number = file_number_small (number_of (text_of row 1));
  files = file_number_small (number_of (text_of row 2));
  first = day_civil (slice_split (λ b. eqb b 45) (text_of row 3));
  last = day_civil (slice_split (λ b. eqb b 45) (text_of row 4));
  order = days_ordered (day_of (text_of row 3)) (day_of (text_of row 4)) (h.1.1.1.0 refl) (h.1.1.1.1.0 refl);
}
by_kind row kinds.Summary t h = record {
  id = h.0 refl;
  territory = h.1.0 refl;
  use_type = h.1.1.0 refl;
  currency = h.1.1.1.0 refl;
  usages = usages_small (text_of row 4);
  amount = amount_small (text_of row 5);
}
by_kind row kinds.Resource t h = h.0 refl
by_kind row kinds.Work t h = values_text (text_of row 3) t
by_kind row kinds.Usage t h = record { usages = usages_small (text_of row 2); amount = amount_small (text_of row 3) }
by_kind row kinds.Foot t h = tt
by_kind row kinds.Skipped t h = tt

-- a column's text is that of a cell
no_text : IsText plain []
no_text = record { utf8 = IsUtf8-nil; all = refl; short = omega arith }

text_in_row : (cells : List (List ℕ)) → AllByRecursion (IsText plain) cells → (positions : List (Option ℕ)) (i : ℕ)
    → IsText plain (text_of (map (cell_in cells) positions) i)
text_in_row cells all [] i = no_text
text_in_row cells all (None ∷ ps) zero = no_text
text_in_row cells all (Some p ∷ ps) zero = found (slice_get cells p) (λ text. each_at (IsText plain) cells p text all)
  where
    found : (o : Option (List ℕ)) → ((text : List ℕ) → o ≡ Some text → IsText plain text) → IsText plain (unwrap_or o [])
    found None h = no_text
    found (Some text) h = h text refl
text_in_row cells all (p ∷ ps) (suc i) = text_in_row cells all ps i

-- the record of a line, if it has one
abbrev pub IfRecord : Result Record RecordFault → Type 0
IfRecord (Ok r) = IsRecord r
IfRecord (Err fault) = Unit {0}

unless : (o : Option RecordFault) (r : Record) → (o ≡ None → IsRecord r) → IfRecord (unless_fault o r)
unless None r h = h refl
unless (Some fault) r h = tt

by_role : (layout : LayoutTable) (line : List ℕ) → IsText no_feed line → (o : Option RoleLine) → IfRecord (record_by_role layout line o)
by_role layout line h None = cond_both (is_skipped layout (type_of line)) _ _ IfRecord (λ e. tt) (λ e. tt)
by_role layout line h (Some role) =
    let row = cells_at line role.positions in
    unless (fault_of row role.kind) (record_by_kind role.kind (text_of row))
    (λ e. by_kind row role.kind (text_in_row (cells line) (cells_of_line line h) role.positions 3)
    (are_spelled row (columns_of role.kind) 0 (or_else_none (first_fault row (columns_of role.kind) 0) _ e).0))

pub record_spelled : (layout : LayoutTable) (line : List ℕ) → IsText no_feed line → IfRecord (record_of layout line)
record_spelled layout line h =
    cond_both (nat_lt 64 (length (cells line))) _ _ IfRecord (λ e. tt) (λ e. by_role layout line h (role_of layout (type_of line)))
