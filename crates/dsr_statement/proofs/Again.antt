-- The row of a line's text.
use Rattle.std.proofs.Common.{arith, ◌≡◌, ◌≢◌, ◌<◌, ◌≤◌, ℕ, List, [], ◌∷◌, length, take, take_all, map, Bool, true, false, refl, ap, sym, ◌∙◌, nat_eq, inl, inr, subst, Option, Some, None, Result, Ok, Err}
use Rattle.std.specs.Result.{IfErr}
use Rattle.std.specs.Prelude.{IfSome, slice_index_or, codes, decimal}
use Rattle.std.specs.List.{list_all, join_with_byte}
use Rattle.std.proofs.lemmas.Bool.{and_parts, and_from, ne_eqb, cases_Bool}
use Rattle.std.proofs.lemmas.Slice.Eq.{bytes_eq-Decides}
use Rattle.std.specs.Str.{bytes_eq}
use Rattle.std.proofs.lemmas.List.{length-take}
use Rattle.std.proofs.lemmas.List.Splits.{length-slice_split, join_with_byte-slice_split}
use Rattle.dsr_cells.specs.meaning.Cells.{cells}
use Rattle.dsr_events.specs.meaning.Names.{column_named, name_of}
use Rattle.dsr_events.specs.declared.kinds.Column.{Column}
use Rattle.dsr_events.specs.declared.fault.Outcome.{Outcome}
use Rattle.dsr_events.specs.declared.fault.Outcome.TheVariants as outcomes
use Rattle.dsr_statement.specs.declared.line.Line.{Line}
use Rattle.dsr_statement.specs.declared.line.Line.TheVariants as lines
use Rattle.dsr_statement.specs.declared.line.LineKind.{LineKind}
use Rattle.dsr_statement.specs.declared.line.LineKind.TheVariants as kinds
use Rattle.dsr_statement.specs.declared.fault.StatementFault.{StatementFault}
use Rattle.dsr_statement.specs.declared.fault.StatementFault.TheVariants as faults
use Rattle.dsr_statement.specs.meaning.Names.{kind_name, standing_name}
use Rattle.dsr_statement.specs.meaning.Cells.{Cell, Faulty, FileNumber, Number64, FaultName, cell_text, is_cell, has_no_tab}
use Rattle.dsr_statement.specs.meaning.Lines.{line_cells, cell_texts, line_text, is_line, column_cells, outcome_cells}
use Rattle.dsr_statement.specs.meaning.Faults.{named, kinds_in_order, kind_in, has_cells, has_file_cells, shape_fault, count_fault}
use Rattle.dsr_statement.specs.meaning.Readings.{Spells, fault_of, or_spelling}
use Rattle.dsr_statement.specs.inner.Lenient.{ReadsKind, kind_of}
use Rattle.dsr_statement.proofs.Plain.{cell_plain, cells_again}

-- the cells of a line
pub all_plain : (cs : List Cell) → list_all is_cell cs ≡ true → list_all has_no_tab (map cell_text cs) ≡ true
all_plain [] h = refl
all_plain (c ∷ cs) h =
    let both = and_parts (is_cell c) (list_all is_cell cs) h in
    and_from (has_no_tab (cell_text c)) (list_all has_no_tab (map cell_text cs)) (cell_plain c both.0) (all_plain cs both.1)

joined : (texts : List (List ℕ)) → length texts ≢ 0 → list_all has_no_tab texts ≡ true → cells (join_with_byte 9 texts) ≡ texts
joined [] some h = absurd (some refl)
joined (x ∷ xs) some h = cells_again x xs h

outcome_long : (o : Outcome) → length (map cell_text (outcome_cells o)) ≤ 4
outcome_long outcomes.Whole = omega arith
outcome_long (outcomes.Fault at f) = columns (column_named f)
  where
    columns : (c : Option Column) → length (map cell_text (Faulty ∷ Number64 at ∷ FaultName f ∷ column_cells c)) ≤ 4
    columns None = omega arith
    columns (Some c) = omega arith

long : (l : Line) → (length (cell_texts l) ≢ 0) × (length (cell_texts l) ≤ 9)
long (lines.File place f) = (λ e. absurd (omega arith), omega (arith, outcome_long f.outcome))
long (lines.Report key) = (λ e. absurd (omega arith), omega arith)
long _ = (λ e. absurd (omega arith), omega arith)

pub row_again : (l : Line) → is_line l ≡ true → cells (line_text l) ≡ cell_texts l
row_again l h = joined (cell_texts l) (long l).0 (all_plain (line_cells l) h)

-- its name and the number of its cells
pub name_first : (l : Line) → slice_index_or (cell_texts l) 0 [] ≡ kind_name (kind_of l)
name_first (lines.Report key) = refl
name_first _ = refl

pub kind_again : (kind : LineKind) → kind_in (kind_name kind) ≡ Some kind
unfolding kind_in
kind_again kinds.Report = refl
kind_again _ = refl

-- a line is read from its own cells
pub line_read : (l : Line) (row : List (List ℕ)) (result : Option Line) → ReadsKind (kind_of l) row result → is_line l ≡ true → row ≡ cell_texts l
    → result ≡ Some l
line_read (lines.Report key) row result read h e = read key h e
line_read lines.NoReport row result read h e = read h e
line_read (lines.File place f) row result read h e = read place f h e
line_read (lines.Missing n) row result read h e = read n h e
line_read (lines.Summary d) row result read h e = read d h e
line_read (lines.Ledger key u a) row result read h e = read key u a h e
line_read (lines.Party key p) row result read h e = read key p h e
line_read (lines.Unclaimed key a) row result read h e = read key a h e
line_read (lines.Reject r) row result read h e = read r h e
line_read (lines.Layout d) row result read h e = read d h e
line_read (lines.Input place d) row result read h e = read place d h e
line_read (lines.End n s) row result read h e = read n s h e

-- ten cells are enough to see whether a line has the cells of its kind
first_ten : (kind : LineKind) (row : List (List ℕ)) → has_cells kind (take 10 row) ≡ has_cells kind row
first_ten kind (a ∷ b ∷ c ∷ d ∷ e ∷ f ∷ g ∷ h ∷ i ∷ j ∷ k ∷ more) = many kind
  where
    over : (n : ℕ) → n < 10 → nat_eq (length (a ∷ b ∷ c ∷ d ∷ e ∷ f ∷ g ∷ h ∷ i ∷ j ∷ k ∷ more)) n ≡ false
    over n small = ne_eqb _ _ (λ q. absurd (omega arith))

    many : (kind : LineKind) → has_cells kind (a ∷ b ∷ c ∷ d ∷ e ∷ f ∷ g ∷ h ∷ i ∷ j ∷ [])
        ≡ has_cells kind (a ∷ b ∷ c ∷ d ∷ e ∷ f ∷ g ∷ h ∷ i ∷ j ∷ k ∷ more)
    many kinds.File = refl
    many kinds.Report = rw (over 6 (omega arith)) refl
    many kinds.NoReport = rw (over 1 (omega arith)) refl
    many kinds.Missing = rw (over 2 (omega arith)) refl
    many kinds.Summary = rw (over 7 (omega arith)) refl
    many kinds.Ledger = rw (over 7 (omega arith)) refl
    many kinds.Party = rw (over 7 (omega arith)) refl
    many kinds.Unclaimed = rw (over 6 (omega arith)) refl
    many kinds.Reject = rw (over 5 (omega arith)) refl
    many kinds.Layout = rw (over 3 (omega arith)) refl
    many kinds.Input = rw (over 4 (omega arith)) refl
    many kinds.End = rw (over 3 (omega arith)) refl
first_ten kind _ = refl

pub some_cells : (text : List ℕ) → 0 < length (take 10 (cells text))
some_cells text = omega (arith, length-take 10 (cells text), length-slice_split (λ b. nat_eq b 9) text)

-- a line has the cells of its kind
column_shape : (place number standing blocks line fault : List ℕ) (c : Option Column)
    → has_file_cells (codes "FILE" ∷ place ∷ number ∷ standing ∷ blocks ∷ codes "Fault" ∷ line ∷ fault ∷ map cell_text (column_cells c)) ≡ true
column_shape place number standing blocks line fault None = refl
column_shape place number standing blocks line fault (Some c) = refl

outcome_shape : (place number standing blocks : List ℕ) (o : Outcome)
    → has_file_cells (codes "FILE" ∷ place ∷ number ∷ standing ∷ blocks ∷ map cell_text (outcome_cells o)) ≡ true
outcome_shape place number standing blocks outcomes.Whole = refl
outcome_shape place number standing blocks (outcomes.Fault at f) = column_shape place number standing blocks (decimal at) (name_of f) (column_named f)

has_shape : (l : Line) → has_cells (kind_of l) (cell_texts l) ≡ true
has_shape (lines.File place f) = outcome_shape (decimal place) (cell_text (FileNumber f.number)) (standing_name f.standing) (decimal f.blocks) f.outcome
has_shape (lines.Report key) = refl
has_shape _ = refl

no_name : kind_in [] ≡ None
unfolding kind_in
no_name = refl

-- the fault of the first ten cells
shape_of : (all row : List (List ℕ)) (kind : LineKind) → row ≡ take 10 all → kind_in (slice_index_or row 0 []) ≡ Some kind
    → shape_fault all ≡ count_fault all (Some kind)
shape_of [] row kind e k =
    let first : slice_index_or row 0 [] ≡ [] = ap (λ r. slice_index_or r 0 []) e in
    let found : kind_in [] ≡ Some kind = ap kind_in (sym first) ∙ k in
    let none = no_name in
    cc
shape_of (name ∷ more) row kind e k =
    let first : slice_index_or row 0 [] ≡ name = ap (λ r. slice_index_or r 0 []) e in
    ap (count_fault (name ∷ more)) (ap kind_in (sym first) ∙ k)

pub wrong_cells : (all row : List (List ℕ)) (kind : LineKind) → row ≡ take 10 all → kind_in (slice_index_or row 0 []) ≡ Some kind
    → has_cells kind row ≡ false → shape_fault all ≡ Some faults.Cells
wrong_cells all row kind e k wrong =
    let other : has_cells kind all ≡ false = sym (first_ten kind all) ∙ ap (has_cells kind) (sym e) ∙ wrong in
    shape_of all row kind e k ∙ rw other refl

pub right_cells : (all row : List (List ℕ)) (kind : LineKind) → row ≡ take 10 all → kind_in (slice_index_or row 0 []) ≡ Some kind
    → has_cells kind row ≡ true → shape_fault all ≡ None
right_cells all row kind e k right =
    let other : has_cells kind all ≡ true = sym (first_ten kind all) ∙ ap (has_cells kind) (sym e) ∙ right in
    shape_of all row kind e k ∙ rw other refl

-- the fault of a text with the cells of its kind
pub spelling_fault : (text : List ℕ) (row : List (List ℕ)) (kind : LineKind) (r : Result Line StatementFault) → row ≡ take 10 (cells text)
    → kind_in (slice_index_or row 0 []) ≡ Some kind → has_cells kind row ≡ true → IfErr r (λ f. f ≡ faults.Spelling) → IfErr r (λ f. f ≡ fault_of text)
spelling_fault text row kind (Ok l) e k right h = tt
spelling_fault text row kind (Err f) e k right h = h ∙ sym (ap or_spelling (right_cells (cells text) row kind e k right))

-- the row of a line's text is that of the line, and has its kind and its cells
pub row_of : (text : List ℕ) (row : List (List ℕ)) (l : Line) → row ≡ take 10 (cells text) → Spells text l → row ≡ cell_texts l
row_of text row l e s =
    e ∙ ap (λ t. take 10 (cells t)) (sym s.same) ∙ ap (take 10) (row_again l s.valid) ∙ take_all 10 (cell_texts l) (omega (arith, (long l).1))

pub kind_found : (text : List ℕ) (row : List (List ℕ)) (l : Line) → row ≡ take 10 (cells text) → Spells text l
    → kind_in (slice_index_or row 0 []) ≡ Some (kind_of l)
kind_found text row l e s = ap kind_in (ap (λ r. slice_index_or r 0 []) (row_of text row l e s) ∙ name_first l) ∙ kind_again (kind_of l)

pub kind_is : (text : List ℕ) (row : List (List ℕ)) (kind : LineKind) (l : Line) → row ≡ take 10 (cells text)
    → kind_in (slice_index_or row 0 []) ≡ Some kind → Spells text l → kind ≡ kind_of l
kind_is text row kind l e k s = let found = kind_found text row l e s in cc

pub cells_fit : (text : List ℕ) (row : List (List ℕ)) (kind : LineKind) (l : Line) → row ≡ take 10 (cells text)
    → kind_in (slice_index_or row 0 []) ≡ Some kind → Spells text l → has_cells kind row ≡ true
cells_fit text row kind l e k s =
    ap (has_cells kind) (row_of text row l e s) ∙ ap (λ x. has_cells x (cell_texts l)) (kind_is text row kind l e k s) ∙ has_shape l

-- a line is read from its own text
pub is_read : (text : List ℕ) (row : List (List ℕ)) (kind : LineKind) (read : Option Line) → row ≡ take 10 (cells text)
    → kind_in (slice_index_or row 0 []) ≡ Some kind → ReadsKind kind row read → (l : Line) → Spells text l → read ≡ Some l
is_read text row kind read e k reads l s =
    line_read l row read (subst (λ x. ReadsKind x row read) (kind_is text row kind l e k s) reads) s.valid (row_of text row l e s)

pub not_both : {A : Type 0} (b : Bool) → b ≡ true → b ≡ false → A
not_both b p q = cc

pub not_none : {A B : Type 0} (o : Option A) (x : A) → o ≡ Some x → o ≡ None → B
not_none o x p q = cc

-- the text of a row that is that of a line
pub own_text : (text : List ℕ) (row : List (List ℕ)) (o : Option Line) → row ≡ take 10 (cells text) → IfSome o (λ l. row ≡ cell_texts l)
    → IfSome o (λ l. line_text l ≡ text)
own_text text row None e h = tt
own_text text row (Some l) e h =
    let few : length (cells text) ≤ 10 = omega (arith, length-take 10 (cells text), ap length e, ap length h, (long l).1) in
    ap (join_with_byte 9) (sym h ∙ e ∙ take_all 10 (cells text) few) ∙ join_with_byte-slice_split 9 text

-- a kind is found by its own name
kind_text_of : (all : List LineKind) (text : List ℕ) (kind : LineKind) → named kind_name all text ≡ Some kind → text ≡ kind_name kind
kind_text_of [] text kind e = cc
kind_text_of (k ∷ ks) text kind e = elim (cases_Bool (bytes_eq text (kind_name k))) [
  | inl t ↦
      let found : named kind_name (k ∷ ks) text ≡ Some k = rw t refl in
      let same : k ≡ kind = cc in
      (bytes_eq-Decides text (kind_name k)).0 t ∙ ap kind_name same
  | inr f ↦ let on : named kind_name (k ∷ ks) text ≡ named kind_name ks text = rw f refl in kind_text_of ks text kind (sym on ∙ e)
]

pub kind_text : (text : List ℕ) (kind : LineKind) → kind_in text ≡ Some kind → text ≡ kind_name kind
unfolding kind_in
kind_text text kind e = kind_text_of kinds_in_order text kind e
