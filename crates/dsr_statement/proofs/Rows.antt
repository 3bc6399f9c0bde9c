-- The cells of a row that is that of a line.
use Rattle.std.proofs.Common.{arith, lit≤, ◌≡◌, ◌<◌, ◌≤◌, ◌^◌, ℕ, zero, suc, List, [], ◌∷◌, get_or, drop, length, length-drop, Bool, true, false, inl, inr, nat_lt, refl, ap, sym, ◌∙◌, Option, Some, None}
use Rattle.std.specs.Prelude.{IfSome, ℤ, slice_index_or, codes, ◌&&◌}
use Rattle.std.specs.Str.{bytes_eq}
use Rattle.std.specs.Char.{is_ascii_digit}
use Rattle.std.specs.Fmt.{decimal, signed_decimal}
use Rattle.std.specs.List.{list_all}
use Rattle.std.proofs.lemmas.Bool.{and_parts, cases_Bool, ltb-true}
use Rattle.std.proofs.lemmas.List.{drop-drop, get_or-drop}
use Rattle.std.proofs.lemmas.Slice.Eq.{bytes_eq-Decides}
use Rattle.dsr_cells.proofs.Spelled.{all_digits}
use Rattle.dsr_events.specs.meaning.Names.{column_named}
use Rattle.dsr_events.specs.declared.fault.FileFault.{FileFault}
use Rattle.dsr_events.specs.declared.fault.Outcome.{Outcome}
use Rattle.dsr_events.specs.declared.fault.Outcome.TheVariants as outcomes
use Rattle.dsr_cells.specs.meaning.Days.{CivilDay, day_of}
use Rattle.dsr_cells.proofs.SpelledDays.{written_day_spells}
use Rattle.dsr_statement.specs.declared.line.Line.{Line}
use Rattle.dsr_statement.specs.declared.line.Line.TheVariants as lines
use Rattle.dsr_ledger.specs.declared.verdict.Reason.{Reason}
use Rattle.dsr_ledger.specs.declared.verdict.Reason.TheVariants as reasons
use Rattle.dsr_ledger.specs.declared.verdict.Standing.{Standing}
use Rattle.dsr_ledger.specs.declared.verdict.Standing.TheVariants as standings
use Rattle.dsr_ledger.specs.meaning.Bookings.{Key}
use Rattle.dsr_statement.specs.declared.verdict.Status.{Status}
use Rattle.dsr_statement.specs.declared.verdict.Status.TheVariants as statuses
use Rattle.dsr_statement.specs.meaning.Names.{standing_name, reason_name, status_name}
use Rattle.dsr_statement.specs.meaning.Cells.{Cell, Number64, Number32, FileNumber, Usages, Amount, OnDay, Stands, Why, Whole, StatusName, cell_text, is_cell, is_printed_fault, amount_cell}
use Rattle.dsr_statement.specs.meaning.Lines.{line_cells, cell_texts, is_line, column_cells}
use Rattle.dsr_statement.specs.meaning.Faults.{named}
use Rattle.dsr_statement.specs.inner.Numbers.{number_in, usages_in, amount_in}
use Rattle.dsr_statement.proofs.Digits.{number_again}
use Rattle.dsr_statement.proofs.Numbers.{usages_again, amount_again, usages_spelled, amount_spelled}
use Rattle.dsr_statement.specs.inner.Lenient.{IsSome, Reads, ReadsFault, ReadsOutcome, standings_in_order, reasons_in_order, statuses_in_order}

pub nth : (cs : List Cell) (i : ℕ) → list_all is_cell cs ≡ true → is_cell (get_or cs i Whole) ≡ true
nth [] i h = refl
nth (c ∷ cs) zero h = (and_parts (is_cell c) (list_all is_cell cs) h).0
nth (c ∷ cs) (suc i) h = nth cs i (and_parts (is_cell c) (list_all is_cell cs) h).1

-- the value of a cell is read
pub cell_read : {A : Type 0} (cell : A → Cell) (row : List (List ℕ)) (l : Line) (i : ℕ) (text : List ℕ) (result : Option A) (x : A)
    → Reads cell text result → text ≡ slice_index_or row i [] → is_line l ≡ true → row ≡ cell_texts l
    → get_or (line_cells l) i Whole ≡ cell x → get_or (cell_texts l) i [] ≡ cell_text (cell x) → result ≡ Some x
cell_read cell row l i text result x read at h e is print =
    read x (ap is_cell (sym is) ∙ nth (line_cells l) i h) (at ∙ ap (λ r. slice_index_or r i []) e ∙ print)

-- the text of a cell
pub text_read : (row : List (List ℕ)) (l : Line) (i : ℕ) (text x : List ℕ) → text ≡ slice_index_or row i [] → row ≡ cell_texts l
    → get_or (cell_texts l) i [] ≡ x → text ≡ x
text_read row l i text x at e print = at ∙ ap (λ r. slice_index_or r i []) e ∙ print

abbrev pub key_at : List (List ℕ) → Key
key_at row = record {
  isrc = slice_index_or row 1 [];
  territory = slice_index_or row 2 [];
  use_type = slice_index_or row 3 [];
  currency = slice_index_or row 4 [];
}

pub key_read : (row : List (List ℕ)) (l : Line) (found key : Key) → found ≡ key_at row → row ≡ cell_texts l → key_at (cell_texts l) ≡ key
    → found ≡ key
key_read row l found key at e is = at ∙ ap key_at e ∙ is

pub read_64 : (text : List ℕ) (result : Option ℕ) → result ≡ number_in (2 ^ 64) text → Reads Number64 text result
read_64 text result read = λ n h e. read ∙ ap (number_in (2 ^ 64)) e ∙ number_again (2 ^ 64) n (ltb-true n (2 ^ 64) h) (lit≤ tt)

pub read_32 : (text : List ℕ) (result : Option ℕ) → result ≡ number_in (2 ^ 32) text → Reads Number32 text result
read_32 text result read = λ n h e. read ∙ ap (number_in (2 ^ 32)) e ∙ number_again (2 ^ 32) n (ltb-true n (2 ^ 32) h) (lit≤ tt)

pub usages_read : (text : List ℕ) (result : Option ℤ) → result ≡ usages_in text → Reads Usages text result
usages_read text result read = λ z h e. read ∙ ap usages_in e ∙ usages_again z h

pub amount_read : (text : List ℕ) (result : Option ℤ) → result ≡ amount_in text → Reads Amount text result
unfolding amount_cell
amount_read text result read = λ z h e. read ∙ ap amount_in e ∙ amount_again z h

pub usages_own : (text : List ℕ) (result : Option ℤ) → result ≡ usages_in text → IfSome result (λ z. text ≡ signed_decimal z)
usages_own text None read = tt
usages_own text (Some z) read = usages_spelled text z (sym read)

pub amount_own : (text : List ℕ) (result : Option ℤ) → result ≡ amount_in text → IfSome result (λ z. text ≡ amount_cell z)
unfolding amount_cell
amount_own text None read = tt
amount_own text (Some z) read = amount_spelled text z (sym read)

pub day_read : (text : List ℕ) (result : Option CivilDay) → result ≡ day_of text → Reads OnDay text result
day_read text result read = λ d h e. read ∙ ap day_of e ∙ written_day_spells d h

reason_again : (r : Reason) → named reason_name reasons_in_order (reason_name r) ≡ Some r
unfolding reason_name
reason_again reasons.ForeignFile = refl
reason_again _ = refl

pub reason_read : (text : List ℕ) (result : Option Reason) → result ≡ named reason_name reasons_in_order text → Reads Why text result
reason_read text result read = λ r h e. read ∙ ap (named reason_name reasons_in_order) e ∙ reason_again r

standing_again : (s : Standing) → named standing_name standings_in_order (standing_name s) ≡ Some s
unfolding standing_name
standing_again standings.Ours = refl
standing_again _ = refl

pub standing_read : (text : List ℕ) (result : Option Standing) → result ≡ named standing_name standings_in_order text → Reads Stands text result
standing_read text result read = λ s h e. read ∙ ap (named standing_name standings_in_order) e ∙ standing_again s

status_again : (s : Status) → named status_name statuses_in_order (status_name s) ≡ Some s
unfolding status_name
status_again statuses.Clean = refl
status_again statuses.Remarks = refl

pub status_read : (text : List ℕ) (result : Option Status) → result ≡ named status_name statuses_in_order text → Reads StatusName text result
status_read text result read = λ s h e. read ∙ ap (named status_name statuses_in_order) e ∙ status_again s

pub all_behind : (cs : List Cell) (i : ℕ) → list_all is_cell cs ≡ true → list_all is_cell (drop i cs) ≡ true
all_behind cs zero h = h
all_behind [] (suc i) h = refl
all_behind (c ∷ cs) (suc i) h = all_behind cs i (and_parts (is_cell c) (list_all is_cell cs) h).1

no_hyphen : (m : ℕ) → m < 2 ^ 32 → bytes_eq (decimal m) (codes "-") ≡ false
no_hyphen m low = elim (cases_Bool (bytes_eq (decimal m) (codes "-"))) [
  | inr f ↦ f
  | inl t ↦
      let same : decimal m ≡ codes "-" = (bytes_eq-Decides (decimal m) (codes "-")).0 t in
      let wide : m < 10 ^ 64 = omega arith in
      let digits : list_all is_ascii_digit (codes "-") ≡ true = ap (list_all is_ascii_digit) (sym same) ∙ all_digits m wide in
      let other : list_all is_ascii_digit (codes "-") ≡ false = refl in
      cc
]

-- the number of a file is read
pub file_number_read : (text : List ℕ) (is_hyphen : Bool) (number : Option ℕ) (result : Option (Option ℕ)) → is_hyphen ≡ bytes_eq text (codes "-")
    → Reads Number32 text number → (is_hyphen ≡ true → result ≡ Some None)
    → ((n : ℕ) → is_hyphen ≡ false → number ≡ Some n → result ≡ Some (Some n)) → Reads FileNumber text result
file_number_read text is_hyphen number result is read none some None h e = none (is ∙ ap (λ t. bytes_eq t (codes "-")) e)
file_number_read text is_hyphen number result is read none some (Some n) h e =
    let low : n < 2 ^ 32 = ltb-true n (2 ^ 32) h in
    some n (is ∙ ap (λ t. bytes_eq t (codes "-")) e ∙ no_hyphen n low) (read n h e)

-- how a file ended is read, if there is a fault
pub outcome_read : (row : List (List ℕ)) (line : Option ℕ) (fault : Option FileFault) (result : Option Outcome) → 8 ≤ length row
    → Reads Number64 (slice_index_or row 6 []) line → ReadsFault row fault
    → ((n : ℕ) (f : FileFault) → line ≡ Some n → fault ≡ Some f → result ≡ Some (outcomes.Fault n f)) → ReadsOutcome row result
outcome_read row line fault result long number name found outcomes.Whole h e = absurd (omega (arith, ap length e, length-drop 5 row))
outcome_read row line fault result long number name found (outcomes.Fault at f) h e =
    let one = and_parts (nat_lt at (2 ^ 64)) (is_printed_fault f && list_all is_cell (column_cells (column_named f))) h in
    let two = and_parts (is_printed_fault f) (list_all is_cell (column_cells (column_named f))) one.1 in
    found at f (number at one.0 (sym (get_or-drop 5 row 1 []) ∙ ap (λ r. get_or r 1 []) e)) (name f two.0 (sym (drop-drop 2 5 row) ∙ ap (drop 2) e))

-- a row of seven cells
seven : (row : List (List ℕ)) → length row ≡ 7
    → row ≡ slice_index_or row 0 [] ∷ slice_index_or row 1 [] ∷ slice_index_or row 2 [] ∷ slice_index_or row 3 [] ∷ slice_index_or row 4 []
    ∷ slice_index_or row 5 [] ∷ slice_index_or row 6 [] ∷ []
seven (a ∷ b ∷ c ∷ d ∷ e ∷ f ∷ g ∷ []) n = refl
seven _ n = absurd (omega arith)

-- the row of a ledger line that was read is its own
pub ledger_own : (row : List (List ℕ)) (key : Key) (usages amount : Option ℤ) (result : Option Line) → length row ≡ 7
    → slice_index_or row 0 [] ≡ codes "LEDGER" → key ≡ key_at row → IfSome usages (λ u. slice_index_or row 5 [] ≡ signed_decimal u)
    → IfSome amount (λ a. slice_index_or row 6 [] ≡ amount_cell a)
    → IfSome result (λ l. IsSome usages (λ u. IsSome amount (λ a. l ≡ lines.Ledger key u a))) → IfSome result (λ l. row ≡ cell_texts l)
ledger_own row key usages amount None n name k u a is = tt
ledger_own row key None amount (Some l) n name k u a is = absurd is
ledger_own row key (Some x) None (Some l) n name k u a is = absurd is
ledger_own row key (Some x) (Some y) (Some l) n name k u a is =
    let line : l ≡ lines.Ledger (key_at row) x y = is ∙ ap (λ (q : Key). lines.Ledger q x y) k in
    seven row n ∙ rw (name, u, a) refl ∙ ap cell_texts (sym line)

-- the text of a cell
pub own_at : {A : Type 0} (print : A → List ℕ) (o : Option A) (text at : List ℕ) → text ≡ at → IfSome o (λ x. text ≡ print x)
    → IfSome o (λ x. at ≡ print x)
own_at print None text at e h = tt
own_at print (Some x) text at e h = sym e ∙ h
