-- Sealed statements: how many lines they have, and that they are read again.
use Rattle.std.proofs.Common.{arith, ◌≡◌, ℕ, List, [], ◌∷◌, ◌++◌, length, Bool, true, false, cond, refl, ap, sym, subst, ◌∙◌, append_assoc, append-nil, length-append, Ok, eqb}
use Rattle.std.specs.Prelude.{reverse}
use Rattle.std.specs.List.{list_any}
use Rattle.std.proofs.lemmas.Bool.{and_parts, eqb-true}
use Rattle.std.proofs.lemmas.List.{length-reverse, reverse-append}
use Rattle.std.proofs.lemmas.List.Sorted.{IsPermutation-reverse, list_any-IsPermutation}
use Rattle.dsr_statement.specs.declared.line.Line.{Line}
use Rattle.dsr_statement.specs.declared.line.Line.TheVariants as lines
use Rattle.dsr_statement.specs.declared.verdict.Status.{Status}
use Rattle.dsr_statement.specs.declared.verdict.Status.TheVariants as statuses
use Rattle.dsr_statement.specs.meaning.Order.{files_in, follows, is_end, is_sealed, placed}
use Rattle.dsr_statement.specs.meaning.Status.{is_remark, status_eq, status_of_lines}
use Rattle.dsr_statement.specs.layer.Statements.{AreInPlace, IsSealed}
use Rattle.dsr_statement.proofs.Again.{not_both}
use Rattle.dsr_statement.proofs.ReadLines.{is_in_place}

-- the lines after others are in their places
pub behind : (before xs ys : List Line) → AreInPlace before (xs ++ ys) → AreInPlace (reverse xs ++ before) ys
behind before [] ys h = h
behind before (x ∷ xs) ys h =
    subst (λ (b : List Line). AreInPlace b ys) (sym (append_assoc (reverse xs) (x ∷ []) before) ∙ ap (λ b. b ++ before) (sym (reverse-append (x ∷ []) xs)))
    (behind (x ∷ before) xs ys h.1)

-- no line may stand after END
after_end : (files n : ℕ) (s : Status) (l : Line) → follows files l (lines.End n s) ≡ false
after_end files n s (lines.Report key) = refl
after_end files n s _ = refl

pub nothing_behind : (before : List Line) (l : Line) → placed before l ≡ Ok l → is_sealed before ≡ false
nothing_behind (lines.End n s ∷ before) l h =
    not_both (follows (files_in before) l (lines.End n s)) (is_in_place (lines.End n s ∷ before) l l h).0 (after_end (files_in before) n s l)
nothing_behind _ l h = refl

-- no more lines behind those that are sealed
pub no_prefix : (ls more : List Line) → IsSealed ls → IsSealed (ls ++ more) → more ≡ []
no_prefix ls [] short long = refl
no_prefix ls (l ∷ more) short long =
    let rest : AreInPlace (reverse ls) (l ∷ more) =
    subst (λ (b : List Line). AreInPlace b (l ∷ more)) (append-nil (reverse ls)) (behind [] ls (l ∷ more) long.statement.places) in
    not_both (is_sealed (reverse ls)) short.sealed (nothing_behind (reverse ls) l rest.0)

same_status : (s t : Status) → status_eq s t ≡ true → s ≡ t
same_status statuses.Clean statuses.Clean h = refl
same_status statuses.Remarks statuses.Remarks h = refl
same_status _ _ h = cc

pub any_reverse : (test : Line → Bool) (ls : List Line) → list_any test ls ≡ list_any test (reverse ls)
any_reverse test ls = list_any-IsPermutation test ls (reverse ls) (IsPermutation-reverse ls)

-- END has the number and the status of the lines before it
pub end_counts : (ls : List Line) (count : ℕ) (status : Status) → IsSealed (ls ++ lines.End count status ∷ [])
    → (count ≡ length ls) × (status ≡ status_of_lines ls)
end_counts ls count status h =
    let rest : AreInPlace (reverse ls) (lines.End count status ∷ []) =
    subst (λ (b : List Line). AreInPlace b (lines.End count status ∷ [])) (append-nil (reverse ls)) (behind [] ls (lines.End count status ∷ []) h.statement.places) in
    let both = and_parts (eqb count (length (reverse ls))) (status_eq status (status_of_lines (reverse ls)))
    (is_in_place (reverse ls) (lines.End count status) (lines.End count status) rest.0).2 in (
      eqb-true count (length (reverse ls)) both.0 ∙ length-reverse ls,
      same_status status (status_of_lines (reverse ls)) both.1 ∙ ap (λ b. cond b statuses.Remarks statuses.Clean) (sym (any_reverse is_remark ls)),
    )

-- a list that has items has a last one
last_one : (x : Line) (xs : List Line) → (front : List Line) × (l : Line) × (x ∷ xs ≡ front ++ l ∷ [])
last_one x [] = ([], x, refl)
last_one x (y ∷ ys) = let (front, l, is) = last_one y ys in (x ∷ front, l, ap (λ t. x ∷ t) is)

last_is_end : (front : List Line) (l : Line) → is_sealed (reverse (front ++ l ∷ [])) ≡ true → is_end l ≡ true
last_is_end front l h = sym (ap is_sealed (reverse-append front (l ∷ []))) ∙ h

-- lines that end alike are equally many
ends_alike : (one other : List Line) (l : Line) → IsSealed (one ++ l ∷ []) → IsSealed (other ++ l ∷ []) → length one ≡ length other
ends_alike one other (lines.End count status) a b = sym (end_counts one count status a).0 ∙ (end_counts other count status b).0
ends_alike one other l a b = let end = last_is_end one l a.sealed in cc

empty : (xs : List Line) → length xs ≡ 0 → xs ≡ []
empty [] h = refl
empty (x ∷ xs) h = absurd (omega arith)

-- of lines, and the same with more among them or behind them, not both are sealed
pub no_more_lines : (before more after : List Line) → IsSealed (before ++ after) → IsSealed (before ++ (more ++ after)) → more ≡ []
no_more_lines before more [] short long =
    no_prefix before more (subst IsSealed (append-nil before) short) (subst (λ t. IsSealed (before ++ t)) (append-nil more) long)
no_more_lines before more (x ∷ xs) short long =
    let (front, l, is) = last_one x xs in
    let one : IsSealed ((before ++ front) ++ l ∷ []) =
    subst IsSealed (ap (λ t. before ++ t) is ∙ sym (append_assoc before front (l ∷ []))) short in
    let other : IsSealed ((before ++ (more ++ front)) ++ l ∷ []) =
    subst IsSealed (ap (λ t. before ++ (more ++ t)) is ∙ ap (λ t. before ++ t) (sym (append_assoc more front (l ∷ [])))
    ∙ sym (append_assoc before (more ++ front) (l ∷ []))) long in
    let same = ends_alike (before ++ front) (before ++ (more ++ front)) l one other in
    empty more (omega (arith, same, length-append before front, length-append before (more ++ front), length-append more front))
