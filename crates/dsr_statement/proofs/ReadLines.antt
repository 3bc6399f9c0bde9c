-- The lines of a text that was read: it is their text, and they are in their places.
use Rattle.std.proofs.Common.{arith, ◌≡◌, ℕ, List, [], ◌∷◌, ◌++◌, length, Bool, true, false, refl, ap, sym, subst, ◌∙◌, append_assoc, inl, inr, None, Some, Result, Ok, Err, eqb, nat_lt, ◌&&◌}
use Rattle.std.specs.Prelude.{not, if◌then◌else◌}
use Rattle.std.specs.Str.{IsUtf8, is_utf8}
use Rattle.std.proofs.lemmas.Str.{IsUtf8-from_is_utf8, is_utf8-from_IsUtf8}
use Rattle.std.specs.Result.{IfErr, IfOk}
use Rattle.std.specs.List.{slice_split, join_with_byte}
use Rattle.std.proofs.lemmas.Bool.{and_parts, cases_Bool, eqb-true}
use Rattle.std.proofs.lemmas.List.Concat.{flat_map-cons}
use Rattle.std.proofs.lemmas.List.Splits.{join_with_byte-slice_split}
use Rattle.dsr_statement.specs.declared.line.Line.{Line}
use Rattle.dsr_statement.specs.declared.fault.StatementFault.{StatementFault}
use Rattle.dsr_statement.specs.declared.fault.StatementFault.TheVariants as faults
use Rattle.dsr_statement.specs.declared.fault.ReadError.{ReadError}
use Rattle.dsr_statement.specs.declared.fault.ReadError.TheVariants as errors
use Rattle.dsr_statement.specs.inner.After.{IsErrorOf}
use Rattle.dsr_statement.specs.meaning.Lines.{line_bytes}
use Rattle.dsr_statement.specs.meaning.Order.{placed, is_placed, adds_up, seals, is_no_report, is_complete}
use Rattle.dsr_statement.specs.meaning.Readings.{IsLineOf, IsNextLine, IsReadingAfter, IsReadingOf, Spells, end_fault, ended, fault_of, most_bytes}
use Rattle.dsr_statement.specs.meaning.Statement.{text_of}
use Rattle.dsr_statement.specs.layer.Statements.{AreInPlace}

-- the bytes of a line that is UTF-8 are read as their text is
pub line_of_read : (bytes text : List ℕ) (r : Result Line StatementFault) → nat_lt most_bytes (length bytes) ≡ false → (text ≡ bytes) × IsUtf8 bytes
    → IfOk r (λ l. Spells text l) → ((l : Line) → Spells text l → r ≡ Ok l) → IfErr r (λ f. f ≡ fault_of text) → IsLineOf bytes r
line_of_read bytes text (Ok l) short (same, utf8) found only fault =
    (rw (short, is_utf8-from_IsUtf8 bytes utf8) refl, subst (λ t. Spells t l) same found)
line_of_read bytes text (Err f) short (same, utf8) found only fault =
    inr (rw (short, is_utf8-from_IsUtf8 bytes utf8) refl, fault ∙ ap fault_of same, λ l s. not_read f l (only l (subst (λ t. Spells t l) (sym same) s)))
  where
    not_read : (f : StatementFault) (l : Line) → Err f ≡ Ok l → ⊥
    not_read f l e = cc

pub not_utf8 : (bytes : List ℕ) → nat_lt most_bytes (length bytes) ≡ false → ¬ (IsUtf8 bytes) → IsLineOf bytes (Err faults.NotUtf8)
not_utf8 bytes short other = inl (rw (short, not_so) refl)
  where
    not_so : is_utf8 bytes ≡ false
    not_so = elim (cases_Bool (is_utf8 bytes)) [
      | inl good ↦ absurd (other (IsUtf8-from_is_utf8 bytes good))
      | inr f ↦ f
    ]

-- a line that was read and may not stand where it does
pub next_refused : (before : List Line) (bytes : List ℕ) (l : Line) (e : ReadError) → IsLineOf bytes (Ok l) → IsErrorOf e (λ r. placed before l ≡ r)
    → IsErrorOf e (IsNextLine before bytes)
next_refused before bytes l (errors.Fault f) is h = (Ok l, is, sym h)
next_refused before bytes l errors.Memory is h = tt

-- a line that is in its place passes the tests
pub is_in_place : (before : List Line) (x l : Line) → placed before x ≡ Ok l
    → (is_placed before x ≡ true) × (adds_up before x ≡ true) × (seals before x ≡ true) × (x ≡ l)
is_in_place before x l = by (is_placed before x) (adds_up before x) (seals before x) (is_no_report x)
  where
    by : (p a s n : Bool)
        → (if not p then Err faults.Place else if not a then Err faults.Sum else if not s then Err faults.Seal else if n then Err faults.NoReport else Ok x) ≡ Ok l
        → (p ≡ true) × (a ≡ true) × (s ≡ true) × (x ≡ l)
    by true true true false h = (refl, refl, refl, cc)
    by _ _ _ _ h = absurd cc

-- the next line is one that the bytes spell, in its place
pub next_is : (before : List Line) (bytes : List ℕ) (l : Line) → IsNextLine before bytes (Ok l) → IsLineOf bytes (Ok l) × (placed before l ≡ Ok l)
next_is before bytes l (Ok x, is, e) =
    let same : x ≡ l = (is_in_place before x l (sym e)).3 in
    (subst (λ (y : Line). IsLineOf bytes (Ok y)) same is, ap (placed before) (sym same) ∙ sym e)
next_is before bytes l (Err f, is, e) = cc

-- a text that ends without a fault has nothing behind its last line
pub ended_ok : (before : List Line) (rest : List ℕ) (failed : Bool) (ls : List Line) → Ok ls ≡ ended before (end_fault before rest failed)
    → (rest ≡ []) × (is_complete before ≡ true) × (ls ≡ [])
ended_ok before rest failed ls e =
    let end = by (nat_lt most_bytes (length rest)) failed (eqb (length rest) 0 && is_complete before) e in
    let both = and_parts (eqb (length rest) 0) (is_complete before) end.0 in (empty rest (eqb-true _ _ both.0), both.1, end.1)
  where
    by : (long failed whole : Bool)
        → Ok ls ≡ ended before (if long then Some faults.LongLine else if failed then Some faults.Read else if whole then None else Some faults.Cut)
        → (whole ≡ true) × (ls ≡ [])
    by false false true h = (refl, cc)
    by _ _ _ h = absurd cc

    empty : (xs : List ℕ) → length xs ≡ 0 → xs ≡ []
    empty [] h = refl
    empty (x ∷ xs) h = absurd (omega arith)

pieces_text : (before : List Line) (pieces : List (List ℕ)) (failed : Bool) (ls : List Line) → IsReadingAfter before pieces failed (Ok ls)
    → join_with_byte 10 pieces ≡ text_of ls
pieces_text before [] failed ls h = sym (ap text_of (ended_ok before [] failed ls h).2)
pieces_text before (rest ∷ []) failed ls h = let end = ended_ok before rest failed ls h in end.0 ∙ sym (ap text_of end.2)
pieces_text before (text ∷ next ∷ more) failed ls (Ok l, is, (Ok others, after, e)) =
    let here : line_bytes l ≡ text ++ 10 ∷ [] = ap (λ t. t ++ 10 ∷ []) (next_is before text l is).0.1.same in
    let there = pieces_text (l ∷ before) (next ∷ more) failed others after in
    let all : l ∷ others ≡ ls = cc in
    sym (append_assoc text (10 ∷ []) (join_with_byte 10 (next ∷ more))) ∙ ap (λ t. t ++ join_with_byte 10 (next ∷ more)) (sym here)
    ∙ ap (λ t. line_bytes l ++ t) there ∙ sym (flat_map-cons line_bytes l others) ∙ ap text_of all
pieces_text before (text ∷ next ∷ more) failed ls (Ok l, is, (Err r, after, e)) = cc
pieces_text before (text ∷ next ∷ more) failed ls (Err f, is, e) = cc

-- what is read was written so
pub was_written_so : (text : List ℕ) (failed : Bool) (ls : List Line) → IsReadingOf text failed (Ok ls) → text ≡ text_of ls
was_written_so text failed ls h =
    sym (join_with_byte-slice_split 10 text) ∙ pieces_text [] (slice_split (λ b. eqb b 10) text) failed ls h

pieces_in : (before : List Line) (pieces : List (List ℕ)) (failed : Bool) (ls : List Line) → IsReadingAfter before pieces failed (Ok ls)
    → AreInPlace before ls
pieces_in before [] failed ls h =
    let end = ended_ok before [] failed ls h in subst (λ (x : List Line). AreInPlace before x) (sym end.2) end.1
pieces_in before (rest ∷ []) failed ls h =
    let end = ended_ok before rest failed ls h in subst (λ (x : List Line). AreInPlace before x) (sym end.2) end.1
pieces_in before (text ∷ next ∷ more) failed ls (Ok l, is, (Ok others, after, e)) =
    let here = (next_is before text l is).1 in
    let there = pieces_in (l ∷ before) (next ∷ more) failed others after in
    let all : l ∷ others ≡ ls = cc in
    let both : AreInPlace before (l ∷ others) = (here, there) in
    subst (λ (x : List Line). AreInPlace before x) all both
pieces_in before (text ∷ next ∷ more) failed ls (Ok l, is, (Err r, after, e)) = cc
pieces_in before (text ∷ next ∷ more) failed ls (Err f, is, e) = cc

-- the lines that are read are in their places
pub are_in_place : (text : List ℕ) (failed : Bool) (ls : List Line) → IsReadingOf text failed (Ok ls) → AreInPlace [] ls
are_in_place text failed ls h = pieces_in [] (slice_split (λ b. eqb b 10) text) failed ls h
