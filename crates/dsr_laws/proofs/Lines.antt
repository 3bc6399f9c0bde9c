-- The text of a line is UTF-8, at most 16,384 bytes long and without a line feed.
use Rattle.dsr_laws.proofs.Common.{AllByRecursion, Column, IsAscii, IsPrinted, IsUtf8, IsUtf8-append, IsUtf8-from_ascii, Line, List, None, Option, Outcome, Some, [], all_weaker, and_from, and_parts, arith, cell_fits, cell_text, column_cells, column_named, each_weaker, eqb, fits, inl, inr, is_cell, is_line, is_text, is_utf8-from_IsUtf8, join_with_byte, lacks, le-leb, length, length-append, line_cells, line_text, list_all, list_all-append, map, most_of, nat_tests, not, outcome_cells, refl, rules, shown, suc, true, zero, ℕ, ◌+◌, ◌∙◌, ◌∷◌, ◌≡◌, ◌≤◌}
use Rattle.std.specs.Prelude.{Bool, ◌⊎◌}
use Rattle.dsr_events.specs.declared.fault.Outcome.TheVariants as outcomes
use Rattle.dsr_statement.specs.declared.line.Line.TheVariants as lines
use Rattle.dsr_laws.proofs.Values.{IsText, plain}

-- UTF-8, without a line feed and of so many bytes at most
record IsFine (most : ℕ) (text : List ℕ) : Type 0 where
  utf8 : IsUtf8 text
  feedless : lacks 10 text ≡ true
  short : length text ≤ most

shown_low : (text : List ℕ) → list_all shown text ≡ true → IsAscii text
shown_low [] h i = omega arith
shown_low (b ∷ bs) h zero = grind (arith, nat_tests)
shown_low (b ∷ bs) h (suc i) = shown_low bs (and_parts (shown b) (list_all shown bs) h).1 i

fine : (most : ℕ) (text : List ℕ) → fits most text ≡ true → IsFine most text
fine most text h =
    let shown_ = (and_parts (list_all shown text) _ h).0 in record {
      utf8 = IsUtf8-from_ascii text (shown_low text shown_);
      feedless = all_weaker shown (λ b. not (eqb b 10)) (λ b k. grind (arith, nat_tests)) text shown_;
      short = grind (arith, nat_tests);
    }

-- a text is printed, or it is a text of a cell, for which so many bytes are enough
abbrev IsGiven : Type 0 → ℕ → List ℕ → Type 0
IsGiven printed most text = printed ⊎ (IsText plain text × (8192 ≤ most))

cell_fine : (c : _) → is_cell c ≡ true → IsGiven (IsPrinted c) (most_of c) (cell_text c) → IsFine (most_of c) (cell_text c)
cell_fine c h (inl printed) = fine (most_of c) (cell_text c) (cell_fits c h printed)
cell_fine c h (inr n) =
    let own = n.0 in record {
      utf8 = own.utf8;
      feedless = all_weaker plain (λ b. not (eqb b 10)) (λ b k. grind (arith, nat_tests)) (cell_text c) own.all;
      short = omega (arith, own.short, n.1);
    }

each_fine : {C : Type 0} (good : C → Bool) (P Q : C → Type 0) → ((c : C) → good c ≡ true → P c → Q c) → (cs : List C)
    → list_all good cs ≡ true → AllByRecursion P cs → AllByRecursion Q cs
each_fine good P Q f [] h n = tt
each_fine good P Q f (c ∷ cs) h n = let both = and_parts (good c) (list_all good cs) h in (f c both.0 n.0, each_fine good P Q f cs both.1 n.1)

-- how long texts are at most, each with a byte behind it
abbrev most_in : {C : Type 0} → (C → ℕ) → List C → ℕ
most_in most [] = 0
most_in most (c ∷ cs) = most c + (1 + most_in most cs)

joined : {C : Type 0} (most : C → ℕ) (text : C → List ℕ) (cs : List C) → AllByRecursion (λ c. IsFine (most c) (text c)) cs
    → IsFine (most_in most cs) (join_with_byte 9 (map text cs))
joined most text [] n = fine 0 [] refl
joined most text (c ∷ []) n = let own = n.0 in record { utf8 = own.utf8; feedless = own.feedless; short = omega (arith, own.short) }
joined most text (c ∷ d ∷ ds) n =
    let own = n.0 in let rest = joined most text (d ∷ ds) n.1 in let more = join_with_byte 9 (map text (d ∷ ds)) in
    record {
      utf8 = IsUtf8-append (text c) (9 ∷ more) own.utf8 (IsUtf8-append (9 ∷ []) more (IsUtf8-from_ascii (9 ∷ []) (search rules)) rest.utf8);
      feedless = list_all-append (λ b. not (eqb b 10)) (text c) (9 ∷ more) ∙ and_from _ _ own.feedless rest.feedless;
      short = omega (arith, own.short, rest.short, length-append (text c) (9 ∷ more));
    }

-- the party of a line is a text of a cell
abbrev pub IsNamedLine : Line → Type 0
IsNamedLine (lines.Party key p) = IsText plain p.party
IsNamedLine _ = Unit {0}

-- the cells of a line have so many bytes at most, and all but such a party are printed
column_short : (o : Option Column) → AllByRecursion IsPrinted (column_cells o) × (most_in most_of (column_cells o) ≤ 100)
column_short None = (tt, omega arith)
column_short (Some c) = ((tt, tt), omega arith)

outcome_short : (o : Outcome) → AllByRecursion IsPrinted (outcome_cells o) × (most_in most_of (outcome_cells o) ≤ 1000)
outcome_short outcomes.Whole = (search rules, omega arith)
outcome_short (outcomes.Fault line fault) = let last = column_short (column_named fault) in ((tt, (tt, (tt, last.0))), omega (arith, last.1))

printed : {C : Type 0} (P : C → Type 0) (most : C → ℕ) (text : C → List ℕ) (cs : List C) → AllByRecursion P cs
    → AllByRecursion (λ c. IsGiven (P c) (most c) (text c)) cs
printed P most text cs h = each_weaker P (λ c. IsGiven (P c) (most c) (text c)) (λ c k. inl k) cs h

line_short : (l : Line) → IsNamedLine l
    → AllByRecursion (λ c. IsGiven (IsPrinted c) (most_of c) (cell_text c)) (line_cells l) × (most_in most_of (line_cells l) ≤ 16384)
line_short (lines.File place f) n =
    let last = outcome_short f.outcome in
    (printed IsPrinted most_of cell_text (line_cells (lines.File place f)) (tt, (tt, (tt, (tt, (tt, last.0))))), omega (arith, last.1))
line_short (lines.Party key p) n =
    ((inl tt, (inl tt, (inl tt, (inl tt, (inl tt, (inr (n, omega arith), (inl tt, tt))))))), omega arith)
line_short l n = (printed IsPrinted most_of cell_text (line_cells l) (search rules), omega arith)

-- a line in its ranges is a text
pub line_is_text : (l : Line) → is_line l ≡ true → IsNamedLine l → is_text l ≡ true
line_is_text l h n =
    let short = line_short l n in
    let all = joined most_of cell_text (line_cells l) (each_fine is_cell (λ c. IsGiven (IsPrinted c) (most_of c) (cell_text c))
    (λ c. IsFine (most_of c) (cell_text c)) cell_fine (line_cells l) h short.0) in
    and_from _ _ (is_utf8-from_IsUtf8 (line_text l) all.utf8)
    (and_from _ _ (le-leb (length (line_text l)) 16384 (omega (arith, all.short, short.1))) all.feedless)
