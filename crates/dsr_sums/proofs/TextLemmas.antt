-- The lines of the text.
use Rattle.std.proofs.Common.{◌≡◌, ℕ, suc, ◌+◌, ◌≤◌, ap, sym, ◌∙◌, refl, Bool, true, false, cond, List, [], ◌∷◌, ◌++◌, append_assoc, append-nil, length, arith}
use Rattle.dsr_sums.specs.meaning.Totals.{line, tabbed}
use Rattle.dsr_sums.specs.declared.reports.StatementReport.{StatementReport}
use Rattle.dsr_sums.specs.declared.reports.Role.TheVariants.{Given, Paid}
use Rattle.dsr_sums.specs.meaning.Statements.{has_report, role_eq, statement_line, statement_lines}

abbrev pub one_if : Bool → ℕ
one_if true = 1
one_if false = 0

-- how many of these are given
abbrev pub given_count : List StatementReport → ℕ
given_count [] = 0
given_count (r ∷ rs) = one_if (role_eq r.role Given) + given_count rs

abbrev line_if : Bool → ℕ → List StatementReport → StatementReport → List ℕ
line_if b place all r = cond b (statement_line place (has_report Paid r.key all) r) []

given_count-push : (rs : List StatementReport) (r : StatementReport) → given_count (rs ++ r ∷ []) ≡ given_count rs + one_if (role_eq r.role Given)
given_count-push [] r = omega arith
given_count-push (s ∷ rs) r = omega (arith, given_count-push rs r)

-- the lines of one more
lines-push : (n : ℕ) (all rs : List StatementReport) (r : StatementReport)
    → statement_lines n all (rs ++ r ∷ []) ≡ statement_lines n all rs ++ line_if (role_eq r.role Given) (n + given_count rs) all r
lines-push n all [] r = by (role_eq r.role Given)
  where
    by : (b : Bool) → cond b (statement_line n (has_report Paid r.key all) r ++ []) [] ≡ line_if b (n + 0) all r
    by true = append-nil _ ∙ ap (λ m. statement_line m (has_report Paid r.key all) r) (omega arith)
    by false = refl
lines-push n all (s ∷ rs) r = by (λ m. lines-push m all rs r) (role_eq s.role Given)
  where
    by : ((m : ℕ) → statement_lines m all (rs ++ r ∷ []) ≡ statement_lines m all rs ++ line_if (role_eq r.role Given) (m + given_count rs) all r)
        → (b : Bool) → cond b (statement_line n (has_report Paid s.key all) s ++ statement_lines (suc n) all (rs ++ r ∷ [])) (statement_lines n all (rs ++ r ∷ []))
        ≡ cond b (statement_line n (has_report Paid s.key all) s ++ statement_lines (suc n) all rs) (statement_lines n all rs)
        ++ line_if (role_eq r.role Given) (n + (one_if b + given_count rs)) all r
    by more true =
        ap (λ l. statement_line n (has_report Paid s.key all) s ++ l) (more (suc n))
        ∙ sym (append_assoc (statement_line n (has_report Paid s.key all) s) (statement_lines (suc n) all rs) (line_if (role_eq r.role Given) (suc n + given_count rs) all r))
        ∙ ap (λ m. (statement_line n (has_report Paid s.key all) s ++ statement_lines (suc n) all rs) ++ line_if (role_eq r.role Given) m all r) (omega arith)
    by more false = more n ∙ ap (λ m. statement_lines n all rs ++ line_if (role_eq r.role Given) m all r) (omega arith)

pub given_count-le : (rs : List StatementReport) → given_count rs ≤ length rs
given_count-le [] = omega arith
given_count-le (r ∷ rs) = by (role_eq r.role Given) (given_count-le rs)
  where
    by : (b : Bool) → given_count rs ≤ length rs → one_if b + given_count rs ≤ suc (length rs)
    by true h = omega arith
    by false h = omega arith

-- one more statement, by its role
pub lines_more : (all rs : List StatementReport) (r : StatementReport) (start out : List ℕ) (place : ℕ) → out ≡ start ++ statement_lines 1 all rs
    → place ≡ 1 + given_count rs → role_eq r.role Given ≡ true
    → out ++ statement_line place (has_report Paid r.key all) r ≡ start ++ statement_lines 1 all (rs ++ r ∷ [])
lines_more all rs r start out place is at given =
    (λ i. is i ++ statement_line (at i) (has_report Paid r.key all) r)
    ∙ append_assoc start (statement_lines 1 all rs) (statement_line (1 + given_count rs) (has_report Paid r.key all) r)
    ∙ ap (λ l. start ++ l) (
    ap (λ b. statement_lines 1 all rs ++ line_if b (1 + given_count rs) all r) (sym given) ∙ sym (lines-push 1 all rs r))

pub lines_same : (all rs : List StatementReport) (r : StatementReport) (start out : List ℕ) → out ≡ start ++ statement_lines 1 all rs
    → role_eq r.role Given ≡ false → out ≡ start ++ statement_lines 1 all (rs ++ r ∷ [])
lines_same all rs r start out is paid =
    is ∙ ap (λ l. start ++ l) (
    sym (append-nil (statement_lines 1 all rs))
    ∙ ap (λ b. statement_lines 1 all rs ++ line_if b (1 + given_count rs) all r) (sym paid) ∙ sym (lines-push 1 all rs r))

pub count_more : (rs : List StatementReport) (r : StatementReport) → role_eq r.role Given ≡ true → given_count (rs ++ r ∷ []) ≡ given_count rs + 1
count_more rs r given = given_count-push rs r ∙ ap (λ b. given_count rs + one_if b) given

pub count_same : (rs : List StatementReport) (r : StatementReport) → role_eq r.role Given ≡ false → given_count (rs ++ r ∷ []) ≡ given_count rs
count_same rs r paid = given_count-push rs r ∙ ap (λ b. given_count rs + one_if b) paid ∙ omega arith

-- a cell that is appended
pub cell : (o p q s t : List ℕ) → o ≡ p ++ 9 ∷ s → p ≡ q → s ≡ t → o ≡ q ++ 9 ∷ t
cell o p q s t e f g = e ∙ (λ i. f i ++ 9 ∷ g i)

-- a list with these cells, one after another
abbrev pub with_cells : List ℕ → List (List ℕ) → List ℕ
with_cells o [] = o
with_cells o (c ∷ cs) = with_cells (o ++ 9 ∷ c) cs

with_cells-tabbed : (o : List ℕ) (cs : List (List ℕ)) → with_cells o cs ≡ o ++ tabbed cs
with_cells-tabbed o [] = sym (append-nil o)
with_cells-tabbed o (c ∷ cs) = with_cells-tabbed (o ++ 9 ∷ c) cs ∙ append_assoc o (9 ∷ c) (tabbed cs)

-- a line that was appended cell by cell
pub line_put : (o n : List ℕ) (cs : List (List ℕ)) → with_cells (o ++ n) cs ++ 10 ∷ [] ≡ o ++ line n cs
line_put o n cs =
    ap (λ l. l ++ 10 ∷ []) (with_cells-tabbed (o ++ n) cs) ∙ append_assoc (o ++ n) (tabbed cs) (10 ∷ []) ∙ append_assoc o n (tabbed cs ++ 10 ∷ [])
