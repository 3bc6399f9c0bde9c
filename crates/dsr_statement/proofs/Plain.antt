-- The texts of cells: those but the name of a party are of printed bytes, and not too long, and none has a TAB.
use Rattle.std.proofs.Common.{arith, ◌+◌, ◌≡◌, ◌<◌, ◌≤◌, ◌-◌, ◌/◌, ◌%◌, ◌^◌, ℕ, suc, List, [], ◌∷◌, ◌++◌, length, length-append, take, drop, Bool, true, refl, ap, subst, sym, ◌∙◌, eqb, nat_le, Some, None, false, inl, inr, get_or, zero}
use Rattle.std.specs.Prelude.{ℤ, pos, negsuc, ◌&&◌, ◌||◌, replicate, not}
use Rattle.std.specs.List.{list_all, join_with_byte, onto_first, slice_split}
use Rattle.std.specs.Char.{is_ascii_digit, is_ascii_uppercase, is_ascii_alphanumeric}
use Rattle.std.specs.Int.{is_in_range}
use Rattle.std.specs.Fmt.{decimal, signed_decimal}
use Rattle.std.proofs.lemmas.Bool.{and_parts, cases_Bool, eq-eqb}
use Rattle.std.proofs.lemmas.Bool.Decides.{nat_tests}
use Rattle.std.proofs.lemmas.Fmt.{length-decimal-le_wide}
use Rattle.std.proofs.lemmas.List.{drop-drop, length-replicate, take-append-drop}
use Rattle.std.proofs.lemmas.List.Folds.{list_all-append, list_all_at}
use Rattle.dsr_cells.specs.meaning.Days.{CivilDay, is_civil_day}
use Rattle.dsr_cells.specs.meaning.Texts.{is_capital_or_digit, is_isrc_text, is_run_of, is_text_of}
use Rattle.dsr_cells.specs.meaning.Written.{padded_number, written, written_day}
use Rattle.dsr_cells.proofs.Days.{civil_bounds}
use Rattle.dsr_cells.proofs.Spelled.{all_digits, zeros_digits}
use Rattle.dsr_events.specs.declared.kinds.Column.TheVariants.{MessageId}
use Rattle.dsr_events.specs.declared.fault.FileFault.TheVariants.{LongLine}
use Rattle.dsr_statement.specs.declared.line.LineKind.TheVariants as kinds
use Rattle.dsr_ledger.specs.declared.verdict.Standing.TheVariants as standings
use Rattle.dsr_ledger.specs.declared.verdict.Reason.TheVariants as reasons
use Rattle.dsr_statement.specs.declared.verdict.Status.TheVariants as statuses
use Rattle.dsr_statement.specs.meaning.Digests.{is_small_hex}
unfoldable use Rattle.dsr_statement.specs.meaning.Names.{standing_name, reason_name, status_name}
use Rattle.dsr_statement.specs.meaning.Cells.{Cell, Name, Number64, Number32, FileNumber, Usages, Amount, OnDay, DaysIn, Identifier, Isrc, Territory, UseType, Currency, PartyName, Stands, Why, Whole, Faulty, FaultName, ColumnName, Sha256, StatusName, cell_text, is_cell, are_usages, are_days, days_in, is_amount, has_no_tab}
unfoldable use Rattle.dsr_statement.specs.meaning.Cells.{amount_cell}
use Rattle.dsr_statement.proofs.Numbers.{signed_text, units_text, as_written}
use Rattle.std.proofs.lemmas.List.Splits.{slice_split-cons_yes, slice_split-cons_no}
use Rattle.dsr_cells.specs.meaning.Cells.{cells}
use Rattle.dsr_cells.proofs.Splits.{Lacks, pieces_first, pieces_plain}

-- what passes one test passes a weaker one
pub all_weaker : (p q : ℕ → Bool) → ((b : ℕ) → p b ≡ true → q b ≡ true) → (xs : List ℕ) → list_all p xs ≡ true → list_all q xs ≡ true
all_weaker p q weaker [] h = refl
all_weaker p q weaker (x ∷ xs) h = grind (arith, weaker x, all_weaker p q weaker xs)

-- a printed byte, and a text of so many of them at most
abbrev pub shown : ℕ → Bool
shown b = is_in_range 32 126 b

abbrev pub fits : ℕ → List ℕ → Bool
fits most text = list_all shown text && nat_le (length text) most

fits_from : (p : ℕ → Bool) → ((b : ℕ) → p b ≡ true → shown b ≡ true) → (most : ℕ) (text : List ℕ) → list_all p text ≡ true → length text ≤ most → fits most text ≡ true
fits_from p weaker most text h few = grind (arith, nat_tests, all_weaker p shown weaker text h)

fits_append : (m n : ℕ) (a b : List ℕ) → fits m a ≡ true → fits n b ≡ true → fits (m + n) (a ++ b) ≡ true
fits_append m n a b p q = grind (arith, nat_tests, list_all-append shown a b, length-append a b)

-- one more byte
fits_more : (n b : ℕ) (text : List ℕ) → shown b ≡ true → fits n text ≡ true → fits (suc n) (b ∷ text) ≡ true
fits_more n b text s h = grind (arith, nat_tests)

fits_wider : (m n : ℕ) (text : List ℕ) → m ≤ n → fits m text ≡ true → fits n text ≡ true
fits_wider m n text wide h = grind (arith, nat_tests)

digit : (b : ℕ) → is_ascii_digit b ≡ true → shown b ≡ true
digit b h = grind (arith, nat_tests)

decimal_fits : (k n : ℕ) → 0 < k → n < 10 ^ k → n < 10 ^ 64 → fits k (decimal n) ≡ true
decimal_fits k n some low h = fits_from is_ascii_digit digit k (decimal n) (all_digits n h) (length-decimal-le_wide k n some low h)

padded_fits : (k n : ℕ) → 0 < k → n < 10 ^ k → n < 10 ^ 64 → fits k (padded_number k n) ≡ true
padded_fits k n some low h =
    let zeros = k - length (decimal n) in
    fits_from is_ascii_digit digit k (padded_number k n) (zeros_digits zeros (decimal n) (all_digits n h))
    (omega (arith, length-decimal-le_wide k n some low h, length-append (replicate zeros 48) (decimal n), length-replicate {A = ℕ} zeros 48))

units_fit : (u : ℕ) → u < 2 ^ 123 → fits 39 (units_text u) ≡ true
units_fit u h =
    fits_append 28 11 (decimal (u / 10 ^ 10)) (46 ∷ padded_number 10 (u % 10 ^ 10)) (decimal_fits 28 (u / 10 ^ 10) (omega arith) (omega arith) (omega arith))
    (fits_more 10 46 (padded_number 10 (u % 10 ^ 10)) refl (padded_fits 10 (u % 10 ^ 10) (omega arith) (omega arith) (omega arith)))

amount_fits : (z : ℤ) → is_amount z ≡ true → fits 64 (written z) ≡ true
amount_fits z h = ap (fits 64) (sym (as_written z)) ∙ signed z h
  where
    signed : (y : ℤ) → is_amount y ≡ true → fits 64 (signed_text units_text y) ≡ true
    signed (pos n) h = fits_wider 39 64 (units_text n) (omega arith) (units_fit n (grind (arith, nat_tests)))
    signed (negsuc n) h = fits_wider 40 64 (45 ∷ units_text (suc n)) (omega arith) (fits_more 39 45 (units_text (suc n)) refl (units_fit (suc n) (grind (arith, nat_tests))))

number_fits : (n : ℕ) → n < 10 ^ 63 → fits 64 (decimal n) ≡ true
number_fits n low = decimal_fits 64 n (omega arith) (omega arith) (omega arith)

usages_fit : (z : ℤ) → are_usages z ≡ true → fits 64 (signed_decimal z) ≡ true
usages_fit (pos n) h = number_fits n (grind (arith, nat_tests))
usages_fit (negsuc n) h =
    let low : suc n < 10 ^ 63 = grind (arith, nat_tests) in fits_more 63 45 (decimal (suc n)) refl (decimal_fits 63 (suc n) (omega arith) low (omega arith))

days_fit : (z : ℤ) → are_days z ≡ true → fits 64 (signed_decimal z) ≡ true
days_fit (pos n) h = number_fits n (grind (arith, nat_tests))
days_fit (negsuc n) h = cc

day_fits : (d : CivilDay) → is_civil_day d ≡ true → fits 64 (written_day d) ≡ true
day_fits d h =
    let (y, m, n) = civil_bounds d h in let year = padded_fits 4 d.year (omega arith) (omega arith) (omega arith) in
    let month = fits_more 2 45 (padded_number 2 d.month) refl (padded_fits 2 d.month (omega arith) (omega arith) (omega arith)) in
    let day = fits_more 2 45 (padded_number 2 d.day) refl (padded_fits 2 d.day (omega arith) (omega arith) (omega arith)) in
    fits_wider 10 64 (written_day d) (omega arith) (fits_append 7 3 (padded_number 4 d.year ++ (45 ∷ padded_number 2 d.month)) (45 ∷ padded_number 2 d.day)
    (fits_append 4 3 (padded_number 4 d.year) (45 ∷ padded_number 2 d.month) year month) day)

-- a text of 1 to so many bytes that pass
passing_fits : (p : ℕ → Bool) → ((b : ℕ) → p b ≡ true → shown b ≡ true) → (most : ℕ) (text : List ℕ) → is_text_of p most text ≡ true → fits most text ≡ true
passing_fits p weaker most text h = grind (arith, nat_tests, all_weaker p shown weaker text)

run_fits : (p : ℕ → Bool) → ((b : ℕ) → p b ≡ true → shown b ≡ true) → (count : ℕ) (text : List ℕ) → is_run_of p count text ≡ true → fits count text ≡ true
run_fits p weaker count text h = grind (arith, nat_tests, all_weaker p shown weaker text)

isrc_fits : (text : List ℕ) → is_isrc_text text ≡ true → fits 12 text ≡ true
isrc_fits text h =
    let (front, last) = and_parts (is_run_of is_ascii_uppercase 2 (take 2 text) && is_run_of is_capital_or_digit 3 (take 3 (drop 2 text))) _ h in
    let (first, second) = and_parts (is_run_of is_ascii_uppercase 2 (take 2 text)) _ front in
    let a = run_fits is_ascii_uppercase (λ b k. grind (arith, nat_tests)) 2 (take 2 text) first in
    let b = run_fits is_capital_or_digit (λ b k. grind (arith, nat_tests)) 3 (take 3 (drop 2 text)) second in
    let c = subst (λ t. fits 7 t ≡ true) (sym (drop-drop 3 2 text)) (run_fits is_ascii_digit digit 7 (drop 5 text) last) in
    let rest = subst (λ t. fits 10 t ≡ true) (take-append-drop 3 (drop 2 text)) (fits_append 3 7 (take 3 (drop 2 text)) (drop 3 (drop 2 text)) b c) in
    subst (λ t. fits 12 t ≡ true) (take-append-drop 2 text) (fits_append 2 10 (take 2 text) (drop 2 text) a rest)

-- how long the text of a cell is at most
abbrev pub most_of : Cell → ℕ
most_of (Identifier most text) = most
most_of (PartyName text) = 8192
most_of _ = 64

abbrev pub IsPrinted : Cell → Type 0
IsPrinted (PartyName text) = ⊥
IsPrinted _ = Unit {0}

pub cell_fits : (c : Cell) → is_cell c ≡ true → IsPrinted c → fits (most_of c) (cell_text c) ≡ true
unfolding amount_cell standing_name reason_name status_name
cell_fits (Name kinds.Report) h p = refl
cell_fits (Name _) h p = refl
cell_fits (Number64 n) h p = number_fits n (grind (arith, nat_tests))
cell_fits (Number32 n) h p = number_fits n (grind (arith, nat_tests))
cell_fits (FileNumber None) h p = refl
cell_fits (FileNumber (Some n)) h p = number_fits n (grind (arith, nat_tests))
cell_fits (Usages z) h p = usages_fit z h
cell_fits (Amount z) h p = amount_fits z h
cell_fits (OnDay d) h p = day_fits d h
cell_fits (DaysIn first last) h p = days_fit (days_in first last) h
cell_fits (Identifier most text) h p = passing_fits shown (λ b k. k) most text h
cell_fits (Isrc text) h p = fits_wider 12 64 text (omega arith) (isrc_fits text h)
cell_fits (Territory text) h p =
    fits_wider 16 64 text (omega arith) (passing_fits (λ b. is_ascii_alphanumeric b || (eqb b 45)) (λ b k. grind (arith, nat_tests)) 16 text h)
cell_fits (UseType text) h p = passing_fits is_ascii_alphanumeric (λ b k. grind (arith, nat_tests)) 64 text h
cell_fits (Currency text) h p = fits_wider 3 64 text (omega arith) (run_fits is_ascii_uppercase (λ b k. grind (arith, nat_tests)) 3 text h)
cell_fits (PartyName text) h p = absurd p
cell_fits (Stands standings.Ours) h p = refl
cell_fits (Stands _) h p = refl
cell_fits (Why reasons.ForeignFile) h p = refl
cell_fits (Why _) h p = refl
cell_fits Whole h p = refl
cell_fits Faulty h p = refl
cell_fits (FaultName LongLine) h p = refl
cell_fits (FaultName _) h p = refl
cell_fits (ColumnName MessageId) h p = refl
cell_fits (ColumnName _) h p = refl
cell_fits (Sha256 text) h p = run_fits is_small_hex (λ b k. grind (arith, nat_tests)) 64 text h
cell_fits (StatusName statuses.Clean) h p = refl
cell_fits (StatusName statuses.Remarks) h p = refl

-- so no cell has a TAB
abbrev plain_byte : ℕ → Bool
plain_byte b = not (eqb b 9)

pub cell_plain : (c : Cell) → is_cell c ≡ true → has_no_tab (cell_text c) ≡ true
cell_plain (PartyName text) h = h
cell_plain c h =
    let printed = and_parts (list_all shown (cell_text c)) _ (cell_fits c h tt) in
    all_weaker shown plain_byte (λ b k. grind (arith, nat_tests)) (cell_text c) printed.0

-- plain texts, joined, are cut into the same texts
lacks_tab : (text : List ℕ) → has_no_tab text ≡ true → Lacks 9 text
lacks_tab text h i less e =
    let tab : eqb (get_or text i 0) 9 ≡ true = eq-eqb _ _ e in
    let no : plain_byte (get_or text i 0) ≡ false = rw tab refl in
    let all : has_no_tab text ≡ false = list_all_at plain_byte text i 0 less no in
    cc

pub cells_again : (x : List ℕ) (xs : List (List ℕ)) → list_all has_no_tab (x ∷ xs) ≡ true → cells (join_with_byte 9 (x ∷ xs)) ≡ x ∷ xs
cells_again x [] h = pieces_plain 9 x (lacks_tab x (and_parts (has_no_tab x) true h).0)
cells_again x (y ∷ ys) h =
    let both = and_parts (has_no_tab x) (list_all has_no_tab (y ∷ ys)) h in
    pieces_first 9 (x ++ (9 ∷ join_with_byte 9 (y ∷ ys))) x (join_with_byte 9 (y ∷ ys)) refl (lacks_tab x both.0)
    ∙ ap (λ ps. x ∷ ps) (cells_again y ys both.1)

-- the pieces of any text lack the byte between them, so its cells have no TAB
abbrev pub lacks : ℕ → List ℕ → Bool
lacks c text = list_all (λ b. not (eqb b c)) text

onto_lacks : (c b : ℕ) (ps : List (List ℕ)) → eqb b c ≡ false → list_all (lacks c) ps ≡ true → list_all (lacks c) (onto_first b ps) ≡ true
onto_lacks c b [] other h = rw other refl
onto_lacks c b (p ∷ ps) other h = grind arith

pub pieces_lack : (c : ℕ) (text : List ℕ) → list_all (lacks c) (slice_split (λ b. eqb b c) text) ≡ true
pieces_lack c [] = refl
pieces_lack c (b ∷ bs) = elim (cases_Bool (eqb b c)) [
  | inl same ↦ ap (list_all (lacks c)) (slice_split-cons_yes (λ x. eqb x c) b bs same) ∙ pieces_lack c bs
  | inr other ↦ ap (list_all (lacks c)) (slice_split-cons_no (λ x. eqb x c) b bs other) ∙ onto_lacks c b (slice_split (λ x. eqb x c) bs) other (pieces_lack c bs)
]

pub cells_no_tab : (text : List ℕ) → list_all has_no_tab (cells text) ≡ true
cells_no_tab text = pieces_lack 9 text

pub nth_no_tab : (texts : List (List ℕ)) (i : ℕ) → list_all has_no_tab texts ≡ true → has_no_tab (get_or texts i []) ≡ true
nth_no_tab [] i h = refl
nth_no_tab (t ∷ ts) zero h = grind arith
nth_no_tab (t ∷ ts) (suc i) h = grind (arith, nth_no_tab ts i)
