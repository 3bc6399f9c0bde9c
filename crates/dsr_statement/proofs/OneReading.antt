-- A text is read in one way.
use Rattle.std.proofs.Common.{◌≡◌, ℕ, List, [], ◌∷◌, Bool, ap, sym, subst, ◌∙◌, inl, inr, Option, None, Some, Result, Ok, Err, eqb}
use Rattle.std.specs.List.{slice_split}
use Rattle.dsr_statement.specs.declared.line.Line.{Line}
use Rattle.dsr_statement.specs.declared.fault.StatementFault.{StatementFault}
use Rattle.dsr_statement.specs.meaning.Order.{placed}
use Rattle.dsr_statement.specs.meaning.Readings.{IsLineOf, IsNextLine, IsReadingAfter, IsReadingOf, Refusal, bytes_fault, refused_after, with_line, ◌>>>◌}
use Rattle.dsr_statement.proofs.OneLine.{one_line}

no_fault : {A : Type 0} (o : Option StatementFault) (f : StatementFault) → o ≡ None → o ≡ Some f → A
no_fault o f e d = cc

same_fault : (o : Option StatementFault) (f g : StatementFault) → o ≡ Some f → o ≡ Some g → f ≡ g
same_fault o f g e d = cc

same_line : (bytes : List ℕ) (a b : Result Line StatementFault) → IsLineOf bytes a → IsLineOf bytes b → a ≡ b
same_line bytes (Ok l) (Ok m) p q = ap Ok (one_line bytes l m p.1 q.1)
same_line bytes (Ok l) (Err f) p (inl q) = no_fault (bytes_fault bytes) f p.0 q
same_line bytes (Ok l) (Err f) p (inr q) = absurd (q.2 l p.1)
same_line bytes (Err f) (Ok l) (inl p) q = no_fault (bytes_fault bytes) f q.0 p
same_line bytes (Err f) (Ok l) (inr p) q = absurd (p.2 l q.1)
same_line bytes (Err f) (Err g) (inl p) (inl q) = ap Err (same_fault (bytes_fault bytes) f g p q)
same_line bytes (Err f) (Err g) (inl p) (inr q) = no_fault (bytes_fault bytes) f q.0 p
same_line bytes (Err f) (Err g) (inr p) (inl q) = no_fault (bytes_fault bytes) g p.0 q
same_line bytes (Err f) (Err g) (inr p) (inr q) = ap Err (p.1 ∙ sym q.1)

pub next_one : (before : List Line) (bytes : List ℕ) (a b : Result Line StatementFault) → IsNextLine before bytes a → IsNextLine before bytes b → a ≡ b
next_one before bytes a b p q = p.2 ∙ ap (λ r. r >>> placed before) (same_line bytes p.0 q.0 p.1 q.1) ∙ sym q.2

abbrev line_read : Line → Result Line StatementFault
line_read l = Ok l

abbrev refused : StatementFault → Result Line StatementFault
refused f = Err f

not_both : {A : Type 0} (l : Line) (f : StatementFault) → line_read l ≡ refused f → A
not_both l f e = cc

pub own_line : (l m : Line) → line_read l ≡ line_read m → l ≡ m
own_line l m e = cc

own_fault : (f g : StatementFault) → refused f ≡ refused g → f ≡ g
own_fault f g e = cc

one_after : (before : List Line) (pieces : List (List ℕ)) (failed : Bool) (a b : Result (List Line) Refusal)
    → IsReadingAfter before pieces failed a → IsReadingAfter before pieces failed b → a ≡ b
one_after before [] failed a b p q = p ∙ sym q
one_after before (rest ∷ []) failed a b p q = p ∙ sym q
one_after before (text ∷ next ∷ more) failed a b (Ok l, is, (r, after, e)) (Ok m, its, (s, later, d)) =
    let same = own_line l m (next_one before text (Ok l) (Ok m) is its) in
    let rest = one_after (l ∷ before) (next ∷ more) failed r s after (subst (λ (x : Line). IsReadingAfter (x ∷ before) (next ∷ more) failed s) (sym same) later) in
    e ∙ ap (with_line l) rest ∙ ap (λ x. with_line x s) same ∙ sym d
one_after before (text ∷ next ∷ more) failed a b (Ok l, is, h) (Err f, its, d) = not_both l f (next_one before text (Ok l) (Err f) is its)
one_after before (text ∷ next ∷ more) failed a b (Err f, is, e) (Ok l, its, h) = not_both l f (next_one before text (Ok l) (Err f) its is)
one_after before (text ∷ next ∷ more) failed a b (Err f, is, e) (Err g, its, d) =
    e ∙ ap (λ x. Err (refused_after before x)) (own_fault f g (next_one before text (Err f) (Err g) is its)) ∙ sym d

pub one_reading : (text : List ℕ) (failed : Bool) (a b : Result (List Line) Refusal) → IsReadingOf text failed a → IsReadingOf text failed b → a ≡ b
one_reading text failed a b p q = one_after [] (slice_split (λ b. eqb b 10) text) failed a b p q
