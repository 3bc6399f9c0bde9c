-- Nothing may follow the text of a sealed statement.
use Rattle.std.proofs.Common.{◌≡◌, ℕ, List, [], ◌∷◌, ◌++◌, true, false, refl, ap, sym, subst, ◌∙◌, inl, inr, append_assoc, append-nil, Result, Ok, Err, eqb}
use Rattle.std.specs.Prelude.{reverse}
use Rattle.std.specs.List.{join_with_byte, onto_first}
use Rattle.std.proofs.lemmas.Bool.{cases_Bool}
use Rattle.std.proofs.lemmas.List.{reverse-append}
use Rattle.std.proofs.lemmas.List.Splits.{join_with_byte-slice_split, slice_split-cons_no, slice_split-cons_yes}
use Rattle.dsr_cells.proofs.Splits.{pieces}
use Rattle.dsr_statement.specs.declared.line.Line.{Line}
use Rattle.dsr_statement.specs.meaning.Order.{is_sealed}
use Rattle.dsr_statement.specs.meaning.Readings.{IsReadingAfter, Refusal}
use Rattle.dsr_statement.specs.layer.Readings.{IsReading}
use Rattle.dsr_statement.proofs.Again.{not_both}
use Rattle.dsr_statement.proofs.AgainTexts.{first_piece}
use Rattle.dsr_statement.proofs.OneReading.{next_one, own_line}
use Rattle.dsr_statement.proofs.ReadLines.{ended_ok, next_is}
use Rattle.dsr_statement.proofs.Sealed.{nothing_behind}

-- the pieces of two texts, one behind the other: the last piece of the first joins the first one of the second
abbrev first_of : List ℕ → List (List ℕ) → List ℕ → List ℕ
first_of p [] q = p ++ q
first_of p (next ∷ more) q = p

abbrev others_of : List ℕ → List (List ℕ) → List ℕ → List (List ℕ) → List (List ℕ)
others_of p [] q qs = qs
others_of p (next ∷ more) q qs = first_of next more q ∷ others_of next more q qs

first_more : (b : ℕ) (p : List ℕ) (ps : List (List ℕ)) (q : List ℕ) (qs : List (List ℕ))
    → (b ∷ first_of p ps q) ∷ others_of p ps q qs ≡ first_of (b ∷ p) ps q ∷ others_of (b ∷ p) ps q qs
first_more b p [] q qs = refl
first_more b p (next ∷ more) q qs = refl

pieces_of_both : (text more q : List ℕ) (qs : List (List ℕ)) → pieces 10 more ≡ q ∷ qs
    → (p : List ℕ) × (ps : List (List ℕ)) × (pieces 10 text ≡ p ∷ ps) × (pieces 10 (text ++ more) ≡ first_of p ps q ∷ others_of p ps q qs)
pieces_of_both [] more q qs e = ([], [], refl, e)
pieces_of_both (b ∷ bs) more q qs e =
    let (p, ps, is, both) = pieces_of_both bs more q qs e in
    elim (cases_Bool (eqb b 10)) [
      | inl same ↦ (
        [],
        p ∷ ps,
        slice_split-cons_yes (λ x. eqb x 10) b bs same ∙ ap (λ l. [] ∷ l) is,
        slice_split-cons_yes (λ x. eqb x 10) b (bs ++ more) same ∙ ap (λ l. [] ∷ l) both,
      )
      | inr other ↦ (
        b ∷ p,
        ps,
        slice_split-cons_no (λ x. eqb x 10) b bs other ∙ ap (onto_first b) is,
        slice_split-cons_no (λ x. eqb x 10) b (bs ++ more) other ∙ ap (onto_first b) both ∙ first_more b p ps q qs,
      )
    ]

refuses : {A : Type 0} (r : Refusal) (ls : List Line) → Ok ls ≡ Err r → A
refuses r ls e = cc

abbrev are_read : List Line → Result (List Line) Refusal
are_read ls = Ok ls

same_lines : (ls ms : List Line) → are_read ls ≡ are_read ms → ls ≡ ms
same_lines ls ms e = cc

only_end : (p q : List ℕ) → p ≡ [] → p ++ q ≡ [] → q ≡ []
only_end p q e h = ap (λ t. t ++ q) (sym e) ∙ h

-- the pieces of what is read as sealed, and of more: there is no more
no_more_pieces : (before : List Line) (p : List ℕ) (ps : List (List ℕ)) (q : List ℕ) (qs : List (List ℕ)) (ls all : List Line)
    → IsReadingAfter before (p ∷ ps) false (Ok ls) → IsReadingAfter before (first_of p ps q ∷ others_of p ps q qs) false (Ok all)
    → is_sealed (reverse ls ++ before) ≡ true → (q ≡ []) × (qs ≡ [])
no_more_pieces before p [] q [] ls all one both sealed =
    (only_end p q (ended_ok before p false ls one).0 (ended_ok before (p ++ q) false all both).0, refl)
no_more_pieces before p [] q (next ∷ more) ls all one (Ok l, is, h) sealed =
    let none = (ended_ok before p false ls one).2 in
    not_both (is_sealed before) (ap (λ t. is_sealed (reverse t ++ before)) (sym none) ∙ sealed) (nothing_behind before l (next_is before (p ++ q) l is).1)
no_more_pieces before p [] q (next ∷ more) ls all one (Err f, is, e) sealed = refuses _ all e
no_more_pieces before p (next ∷ more) q qs ls all (Ok l, is, (Ok others, after, e)) (Ok m, its, (Ok rest, later, d)) sealed =
    let same = own_line l m (next_one before p (Ok l) (Ok m) is its) in
    let there = subst (λ (x : Line). IsReadingAfter (x ∷ before) (first_of next more q ∷ others_of next more q qs) false (Ok rest)) (sym same) later in
    let turned : reverse ls ++ before ≡ reverse others ++ (l ∷ before) =
    ap (λ t. reverse t ++ before) (same_lines ls (l ∷ others) e) ∙ ap (λ t. t ++ before) (reverse-append (l ∷ []) others)
    ∙ append_assoc (reverse others) (l ∷ []) before in
    no_more_pieces (l ∷ before) next more q qs others rest after there (ap is_sealed (sym turned) ∙ sealed)
no_more_pieces before p (next ∷ more) q qs ls all (Ok l, is, (Err r, after, e)) both sealed = refuses r ls e
no_more_pieces before p (next ∷ more) q qs ls all (Err f, is, e) both sealed = refuses _ ls e
no_more_pieces before p (next ∷ more) q qs ls all (Ok l, is, (Ok others, after, e)) (Ok m, its, (Err r, later, d)) sealed = refuses r all d
no_more_pieces before p (next ∷ more) q qs ls all (Ok l, is, (Ok others, after, e)) (Err f, its, d) sealed = refuses _ all d

-- nothing may follow the text of a sealed statement
pub nothing_follows : (text more : List ℕ) (ls all : List Line) → IsReading text (Ok ls) → is_sealed (reverse ls) ≡ true → IsReading (text ++ more) (Ok all)
    → more ≡ []
nothing_follows text more ls all one sealed both =
    let (q, qs, cut) = first_piece 10 more in
    let (p, ps, first, joined) = pieces_of_both text more q qs cut in
    let (none, nothing) = no_more_pieces [] p ps q qs ls all (subst (λ x. IsReadingAfter [] x false (Ok ls)) first one)
    (subst (λ x. IsReadingAfter [] x false (Ok all)) joined both) (ap is_sealed (append-nil (reverse ls)) ∙ sealed) in
    sym (join_with_byte-slice_split 10 more) ∙ ap (join_with_byte 10) cut ∙ (λ i. join_with_byte 10 (none i ∷ nothing i))
