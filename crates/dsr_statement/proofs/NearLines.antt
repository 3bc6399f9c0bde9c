-- The lines with the key of the ledger line before them.
use Rattle.std.proofs.Common.{arith, ◌≡◌, ◌≢◌, ℕ, List, [], ◌∷◌, ◌++◌, length, true, false, refl, ap, sym, subst, ◌∙◌, eqb, nat_lt, Option, Some, None, Ok}
use Rattle.std.specs.Prelude.{IfSome, ℤ, codes}
use Rattle.std.specs.List.{list_all, join_with_byte}
use Rattle.std.specs.Str.{IsUtf8}
use Rattle.std.proofs.lemmas.Str.{is_utf8-from_IsUtf8}
use Rattle.std.proofs.lemmas.Bool.{and_from, and_parts}
use Rattle.std.proofs.lemmas.List.Splits.{length-slice_split, join_with_byte-slice_split}
use Rattle.dsr_cells.specs.meaning.Cells.{cells}
use Rattle.dsr_ledger.specs.meaning.Bookings.{Key}
use Rattle.dsr_ledger.specs.declared.report.PartyLine.{PartyLine}
use Rattle.dsr_statement.specs.declared.line.Line.{Line}
use Rattle.dsr_statement.specs.declared.line.Line.TheVariants as lines
use Rattle.dsr_statement.specs.meaning.Cells.{Cell, Amount, Isrc, Territory, UseType, Currency, PartyName, amount_cell, has_no_tab, is_amount, is_cell}
use Rattle.dsr_statement.specs.meaning.Readings.{IsLineOf, Spells, most_bytes}
use Rattle.dsr_statement.specs.inner.Lenient.{IsSome}
use Rattle.dsr_statement.specs.inner.Near.{is_key, key_before}
use Rattle.dsr_statement.proofs.Plain.{cells_no_tab}

-- the first cell and the cells behind it, put together
joined : (cell : List ℕ) (more : List (List ℕ)) → more ≢ [] → join_with_byte 9 (cell ∷ more) ≡ cell ++ 9 ∷ join_with_byte 9 more
joined cell [] some = absurd (some refl)
joined cell (next ∷ more) some = refl

-- a text is its first cell, the TAB behind it, and the rest
pub first_cut : (text party rest : List ℕ) → cells text ≡ party ∷ cells rest → (text ≡ party ++ 9 ∷ rest) × (has_no_tab party ≡ true)
first_cut text party rest same =
    let some : cells rest ≢ [] = λ none. absurd (omega (arith, length-slice_split (λ b. eqb b 9) rest, ap length none)) in (
      sym (join_with_byte-slice_split 9 text) ∙ ap (join_with_byte 9) same ∙ joined party (cells rest) some
          ∙ ap (λ t. party ++ 9 ∷ t) (join_with_byte-slice_split 9 rest),
      (and_parts (has_no_tab party) _ (ap (list_all has_no_tab) (sym same) ∙ cells_no_tab text)).0,
    )

-- the cells of a key and others are spelled as in a report
more_cells : (a b c d : Cell) (more : List Cell) → list_all is_cell (a ∷ b ∷ c ∷ d ∷ []) ≡ true → list_all is_cell more ≡ true
    → list_all is_cell (a ∷ b ∷ c ∷ d ∷ more) ≡ true
more_cells a b c d more h rest =
    let one = and_parts (is_cell a) (list_all is_cell (b ∷ c ∷ d ∷ [])) h in let two = and_parts (is_cell b) (list_all is_cell (c ∷ d ∷ [])) one.1 in
    let three = and_parts (is_cell c) (list_all is_cell (d ∷ [])) two.1 in let four = and_parts (is_cell d) true three.1 in
    and_from (is_cell a) _ one.0 (and_from (is_cell b) _ two.0 (and_from (is_cell c) _ three.0 (and_from (is_cell d) _ four.0 rest)))

key_and : (key : Key) (more : List Cell) → is_key key ≡ true → list_all is_cell more ≡ true
    → list_all is_cell (Isrc key.isrc ∷ Territory key.territory ∷ UseType key.use_type ∷ Currency key.currency ∷ more) ≡ true
key_and key more h rest = more_cells (Isrc key.isrc) (Territory key.territory) (UseType key.use_type) (Currency key.currency) more h rest

-- the text behind a line's name is that of a party's line with this key
pub party_near : (key own : Key) (text rest party last : List ℕ) (amount : Option ℤ) (result : Option Line) → own ≡ key → text ≡ key_before key rest
    → rest ≡ party ++ 9 ∷ last → has_no_tab party ≡ true → IfSome amount (λ a. (last ≡ amount_cell a) × (is_amount a ≡ true))
    → IfSome result (λ l. IsSome amount (λ a. l ≡ lines.Party own (record { party = party; amount = a })))
    → is_key key ≡ true → IfSome result (Spells (codes "PARTY" ++ 9 ∷ text))
party_near key own text rest party last amount None same front cut plain read is good = tt
party_near key own text rest party last None (Some l) same front cut plain read is good = absurd is
party_near key own text rest party last (Some a) (Some l) same front cut plain read is good =
    let p : PartyLine = record { party = party; amount = a } in
    let line : lines.Party key p ≡ l = ap (λ (k : Key). lines.Party k p) (sym same) ∙ sym is in
    let here : Spells (codes "PARTY" ++ 9 ∷ text) (lines.Party key p) = record {
      valid = key_and key (PartyName party ∷ Amount a ∷ []) good (and_from (has_no_tab party) _ plain (and_from (is_amount a) true read.1 refl));
      same = sym (ap (λ t. codes "PARTY" ++ 9 ∷ t) (front ∙ ap (key_before key) (cut ∙ ap (λ t. party ++ 9 ∷ t) read.0)));
    } in
    subst (λ (x : Line). Spells (codes "PARTY" ++ 9 ∷ text) x) line here

-- the same of the line of an unclaimed amount
pub unclaimed_near : (key own : Key) (text rest : List ℕ) (amount : Option ℤ) (result : Option Line) → own ≡ key → text ≡ key_before key rest
    → IfSome amount (λ a. (rest ≡ amount_cell a) × (is_amount a ≡ true))
    → IfSome result (λ l. IsSome amount (λ a. l ≡ lines.Unclaimed own a))
    → is_key key ≡ true → IfSome result (Spells (codes "UNCLAIMED" ++ 9 ∷ text))
unclaimed_near key own text rest amount None same front read is good = tt
unclaimed_near key own text rest None (Some l) same front read is good = absurd is
unclaimed_near key own text rest (Some a) (Some l) same front read is good =
    let line : lines.Unclaimed key a ≡ l = ap (λ (k : Key). lines.Unclaimed k a) (sym same) ∙ sym is in
    let here : Spells (codes "UNCLAIMED" ++ 9 ∷ text) (lines.Unclaimed key a) = record {
      valid = key_and key (Amount a ∷ []) good (and_from (is_amount a) true read.1 refl);
      same = sym (ap (λ t. codes "UNCLAIMED" ++ 9 ∷ t) (front ∙ ap (key_before key) read.0));
    } in
    subst (λ (x : Line). Spells (codes "UNCLAIMED" ++ 9 ∷ text) x) line here

-- a line that bytes spell
pub line_near : (bytes text : List ℕ) (result : Option Line) → nat_lt most_bytes (length bytes) ≡ false → (text ≡ bytes) × IsUtf8 bytes
    → IfSome result (Spells text) → IfSome result (λ l. IsLineOf bytes (Ok l))
line_near bytes text None short is spells = tt
line_near bytes text (Some l) short (same, utf8) spells =
    (rw (short, is_utf8-from_IsUtf8 bytes utf8) refl, subst (λ t. Spells t l) same spells)
