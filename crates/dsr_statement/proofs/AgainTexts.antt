-- A statement is read again from the text of its lines.
use Rattle.std.proofs.Common.{rules, arith, ◌≡◌, ℕ, List, [], ◌∷◌, ◌++◌, length, get_or, true, false, refl, ap, sym, subst, ◌∙◌, append_assoc, inl, inr, None, Result, Ok, Err, eqb, nat_lt, nat_le}
use Rattle.std.specs.Prelude.{codes, not, ◌&&◌}
use Rattle.std.specs.List.{list_all, onto_first}
use Rattle.std.specs.Str.{IsAscii, is_utf8}
use Rattle.std.proofs.lemmas.Bool.{and_parts, and_from, cases_Bool, eq-eqb}
use Rattle.std.proofs.lemmas.Bool.Decides.{nat_tests}
use Rattle.std.proofs.lemmas.Str.{IsUtf8-from_ascii, is_utf8-from_IsUtf8}
use Rattle.std.proofs.lemmas.List.Concat.{flat_map-cons}
use Rattle.std.proofs.lemmas.List.Folds.{list_all_at}
use Rattle.std.proofs.lemmas.List.Splits.{slice_split-cons_yes, slice_split-cons_no}
use Rattle.dsr_cells.proofs.Splits.{Lacks, pieces, pieces_first}
use Rattle.dsr_statement.specs.declared.line.Line.{Line}
use Rattle.dsr_statement.specs.declared.line.Line.TheVariants as lines
use Rattle.dsr_statement.specs.declared.fault.StatementFault.TheVariants as faults
use Rattle.dsr_statement.specs.meaning.Lines.{line_bytes, line_text, is_line}
use Rattle.dsr_statement.specs.meaning.Readings.{IsLineOf, IsReadingAfter, Refusal, bytes_fault, most_bytes, refused_after}
use Rattle.dsr_statement.specs.layer.Readings.{IsReading}
use Rattle.dsr_statement.specs.meaning.Statement.{text_of}
use Rattle.dsr_statement.specs.layer.Statements.{AreInPlace, IsStatement, has_no_feed, is_text}

lacks_feed : (l : Line) → is_text l ≡ true → Lacks 10 (line_text l)
lacks_feed l t i less e =
    let rest = (and_parts (is_utf8 (line_text l)) (nat_le (length (line_text l)) most_bytes && has_no_feed (line_text l)) t).1 in
    let none = (and_parts (nat_le (length (line_text l)) most_bytes) (has_no_feed (line_text l)) rest).1 in
    let feed : eqb (get_or (line_text l) i 0) 10 ≡ true = eq-eqb _ _ e in
    let all : has_no_feed (line_text l) ≡ false = list_all_at (λ b. not (eqb b 10)) (line_text l) i 0 less (rw feed refl) in
    let other : true ≡ false = sym none ∙ all in
    cc

-- a text has a first piece
pub first_piece : (c : ℕ) (text : List ℕ) → (p : List ℕ) × (ps : List (List ℕ)) × (pieces c text ≡ p ∷ ps)
first_piece c [] = ([], [], refl)
first_piece c (b ∷ bs) = elim (cases_Bool (eqb b c)) [
  | inl same ↦ ([], pieces c bs, slice_split-cons_yes (λ x. eqb x c) b bs same)
  | inr other ↦
      let (p, ps, is) = first_piece c bs in
      (b ∷ p, ps, slice_split-cons_no (λ x. eqb x c) b bs other ∙ ap (onto_first b) is)
]

-- the pieces of a line's bytes and of others
line_pieces : (l : Line) (ls : List Line) → is_text l ≡ true → pieces 10 (text_of (l ∷ ls)) ≡ line_text l ∷ pieces 10 (text_of ls)
line_pieces l ls h =
    let text : text_of (l ∷ ls) ≡ line_text l ++ (10 ∷ text_of ls) =
    flat_map-cons line_bytes l ls ∙ append_assoc (line_text l) (10 ∷ []) (text_of ls) in
    pieces_first 10 (text_of (l ∷ ls)) (line_text l) (text_of ls) text (lacks_feed l h)

line_again : (l : Line) → is_line l ≡ true → is_text l ≡ true → IsLineOf (line_text l) (Ok l)
line_again l h t =
    let both = and_parts (is_utf8 (line_text l)) (nat_le (length (line_text l)) most_bytes && has_no_feed (line_text l)) t in
    let few = (and_parts (nat_le (length (line_text l)) most_bytes) (has_no_feed (line_text l)) both.1).0 in
    let short : nat_lt most_bytes (length (line_text l)) ≡ false = grind (arith, nat_tests) in
    let fine : bytes_fault (line_text l) ≡ None = rw (short, both.0) refl in
    (fine, record { valid = h; same = refl })

again_from : (before ls : List Line) → list_all is_line ls ≡ true → list_all is_text ls ≡ true → AreInPlace before ls
    → IsReadingAfter before (pieces 10 (text_of ls)) false (Ok ls)
again_from before [] h t p = rw p refl
again_from before (l ∷ ls) h t p =
    let valid = and_parts (is_line l) (list_all is_line ls) h in
    let texts = and_parts (is_text l) (list_all is_text ls) t in
    let (q, qs, some) = first_piece 10 (text_of ls) in
    let rest = again_from (l ∷ before) ls valid.1 texts.1 p.1 in
    let after : IsReadingAfter (l ∷ before) (q ∷ qs) false (Ok ls) = subst (λ x. IsReadingAfter (l ∷ before) x false (Ok ls)) some rest in
    let here : IsReadingAfter before (line_text l ∷ q ∷ qs) false (Ok (l ∷ ls)) =
    (Ok l, (Ok l, line_again l valid.0 texts.0, sym p.0), (Ok ls, after, refl)) in
    subst (λ x. IsReadingAfter before x false (Ok (l ∷ ls))) (sym (line_pieces l ls texts.0 ∙ ap (λ x. line_text l ∷ x) some)) here

-- a statement is read again
pub is_read_again : (ls : List Line) → IsStatement ls → IsReading (text_of ls) (Ok ls)
is_read_again ls s = again_from [] ls s.spelled s.texts s.places

first_is_text : is_text lines.NoReport ≡ true
first_is_text =
    let ascii : IsAscii (codes "NOREPORT") = search rules in
    and_from (is_utf8 (codes "NOREPORT")) true (is_utf8-from_IsUtf8 (codes "NOREPORT") (IsUtf8-from_ascii (codes "NOREPORT") ascii)) refl

-- the statement of no report is refused at its first line
pub no_report : (ls : List Line) → IsReading (text_of (lines.NoReport ∷ ls)) (Err (refused_after [] faults.NoReport))
no_report ls =
    let refusal : Result (List Line) Refusal = Err (refused_after [] faults.NoReport) in
    let (q, qs, some) = first_piece 10 (text_of ls) in
    let here : IsReadingAfter [] (line_text lines.NoReport ∷ q ∷ qs) false refusal =
    (Err faults.NoReport, (Ok lines.NoReport, line_again lines.NoReport refl first_is_text, refl), refl) in
    subst (λ x. IsReadingAfter [] x false refusal) (sym (line_pieces lines.NoReport ls first_is_text ∙ ap (λ x. line_text lines.NoReport ∷ x) some)) here
