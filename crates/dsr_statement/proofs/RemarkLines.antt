-- The remarks of lines.
use Rattle.std.proofs.Common.{arith, ◌≡◌, ℕ, suc, ◌+◌, List, [], ◌∷◌, ◌++◌, length, map, Bool, true, false, cond, refl, ap, ◌∙◌, Option, Some, None}
use Rattle.std.specs.Prelude.{◌&&◌, ◌||◌, not, is_some, reverse, ℤ}
use Rattle.std.specs.List.{flat_map, list_all, list_any}
use Rattle.std.specs.Option.{option_or}
use Rattle.std.proofs.lemmas.List.{length-reverse, reverse-append}
use Rattle.std.proofs.lemmas.List.Concat.{flat_map-cons}
use Rattle.std.proofs.lemmas.List.Folds.{list_any-append}
use Rattle.dsr_ledger.specs.meaning.Bookings.{Key}
use Rattle.dsr_ledger.specs.meaning.Laws.{key_of_line}
use Rattle.dsr_ledger.specs.declared.report.ReportKey.{ReportKey}
use Rattle.dsr_ledger.specs.declared.report.FileLine.{FileLine}
use Rattle.dsr_ledger.specs.declared.report.LedgerLine.{LedgerLine}
use Rattle.dsr_ledger.specs.declared.report.PartyLine.{PartyLine}
use Rattle.dsr_ledger.specs.declared.report.Difference.{Difference}
use Rattle.dsr_ledger.specs.declared.report.Reject.{Reject}
use Rattle.dsr_ledger.specs.declared.report.Report.{Report}
use Rattle.dsr_statement.specs.declared.line.Line.{Line}
use Rattle.dsr_statement.specs.declared.line.Line.TheVariants as lines
use Rattle.dsr_statement.specs.declared.verdict.Status.TheVariants.{Clean, Remarks}
use Rattle.dsr_statement.specs.meaning.Statement.{head_of, files_from, lines_of_ledger, statement_lines}
use Rattle.dsr_statement.specs.meaning.Status.{first_remark, is_clean, is_clean_file, is_nil, is_remark, status_of, status_of_lines}

-- the first remark of lines and one more
remark_push : (n : ℕ) (ls : List Line) (l : Line)
    → first_remark n (ls ++ l ∷ []) ≡ option_or (first_remark n ls) (first_remark (n + length ls) (l ∷ []))
remark_push n [] l = ap (λ m. first_remark m (l ∷ [])) (omega arith)
remark_push n (m ∷ ls) l = by (is_remark m) (remark_push (suc n) ls l)
  where
    by : (b : Bool) → first_remark (suc n) (ls ++ l ∷ []) ≡ option_or (first_remark (suc n) ls) (first_remark (suc n + length ls) (l ∷ []))
        → cond b (Some n) (first_remark (suc n) (ls ++ l ∷ []))
        ≡ option_or (cond b (Some n) (first_remark (suc n) ls)) (first_remark (n + suc (length ls)) (l ∷ []))
    by true h = refl
    by false h = h ∙ ap (λ m. option_or (first_remark (suc n) ls) (first_remark m (l ∷ []))) (omega arith)

-- the same of lines that come latest first
pub remark_next : (before : List Line) (l : Line)
    → first_remark 1 (reverse (l ∷ before)) ≡ option_or (first_remark 1 (reverse before)) (first_remark (suc (length before)) (l ∷ []))
remark_next before l =
    ap (first_remark 1) (reverse-append (l ∷ []) before) ∙ remark_push 1 (reverse before) l
    ∙ ap (λ n. option_or (first_remark 1 (reverse before)) (first_remark n (l ∷ []))) (omega (arith, length-reverse before))

-- after a line that is no remark
pub remark_same : (before : List Line) (l : Line) → is_remark l ≡ false → first_remark 1 (reverse (l ∷ before)) ≡ first_remark 1 (reverse before)
remark_same before l none = remark_next before l ∙ rw none (same (first_remark 1 (reverse before)))
  where
    same : (o : Option ℕ) → option_or o None ≡ o
    same o = grind arith

-- lines that come latest first have a remark or not
pub any_remark : (before : List Line) → is_some (first_remark 1 (reverse before)) ≡ list_any is_remark before
any_remark [] = refl
any_remark (l ∷ before) =
    ap is_some (remark_next before l) ∙ some (first_remark 1 (reverse before)) (is_remark l) (suc (length before)) ∙ ap (λ b. is_remark l || b) (any_remark before)
  where
    some : (o : Option ℕ) (b : Bool) (n : ℕ) → is_some (option_or o (cond b (Some n) None)) ≡ (b || is_some o)
    some o b n = grind arith

-- the lines of the parts of a report: no line passes a test that none of its kind passes
pub none_pass : {X : Type 0} (test : Line → Bool) (line : X → Line) → ((x : X) → test (line x) ≡ false) → (xs : List X) → list_any test (map line xs) ≡ false
none_pass test line is [] = refl
none_pass test line is (x ∷ xs) = rw (is x) (none_pass test line is xs)

pub none_of_ledger : (test : Line → Bool) → ((key : Key) (usages amount : ℤ) → test (lines.Ledger key usages amount) ≡ false)
    → ((key : Key) (p : PartyLine) → test (lines.Party key p) ≡ false) → ((key : Key) (amount : ℤ) → test (lines.Unclaimed key amount) ≡ false)
    → (ls : List LedgerLine) → list_any test (flat_map lines_of_ledger ls) ≡ false
none_of_ledger test ledger party unclaimed [] = refl
none_of_ledger test ledger party unclaimed (l ∷ ls) =
    let key = key_of_line l in
    ap (list_any test) (flat_map-cons lines_of_ledger l ls)
    ∙ simp list_any-append (rw (
      ledger key l.usages l.amount,
      none_pass test (λ (p : PartyLine). lines.Party key p) (party key) l.parties,
      unclaimed key l.unclaimed,
      none_of_ledger test ledger party unclaimed ls,
    ) refl)

not_and : (a c d : Bool) → c ≡ not d → (not a || c) ≡ not (a && d)
not_and true c d h = h
not_and false c d h = refl

files_remarks : (place : ℕ) (fs : List FileLine) → list_any is_remark (files_from place fs) ≡ not (list_all is_clean_file fs)
files_remarks place [] = refl
files_remarks place (f ∷ fs) =
    not_and (is_clean_file f) (list_any is_remark (files_from (suc place) fs)) (list_all is_clean_file fs) (files_remarks (suc place) fs)

all_remarks : {X : Type 0} (line : X → Line) → ((x : X) → is_remark (line x) ≡ true) → (xs : List X) → list_any is_remark (map line xs) ≡ not (is_nil xs)
all_remarks line is [] = refl
all_remarks line is (x ∷ xs) = rw (is x) refl

head_remark : (key : Option ReportKey) → is_remark (head_of key) ≡ not (is_some key)
head_remark (Some key) = refl
head_remark None = refl

-- the status of a report is that of its lines
pub report_remarks : (r : Report) → list_any is_remark (statement_lines r) ≡ not (is_clean r)
report_remarks r =
    simp list_any-append (rw (
      head_remark r.key,
      files_remarks 1 r.files,
      all_remarks (λ (n : ℕ). lines.Missing n) (λ n. refl) r.missing,
      all_remarks (λ (d : Difference). lines.Summary d) (λ d. refl) r.differences,
      none_of_ledger is_remark (λ key usages amount. refl) (λ key p. refl) (λ key amount. refl) r.ledger,
      all_remarks (λ (x : Reject). lines.Reject x) (λ x. refl) r.rejects,
    ) (each (is_some r.key) (list_all is_clean_file r.files) (is_nil r.missing) (is_nil r.differences) (is_nil r.rejects)))
  where
    each : (a b c d e : Bool) → (not a || (not b || (not c || (not d || not e)))) ≡ not (a && (b && (c && (d && e))))
    each true true true true e = refl
    each _ _ _ _ e = refl

pub report_status : (r : Report) → status_of_lines (statement_lines r) ≡ status_of r
report_status r = ap (λ b. cond b Remarks Clean) (report_remarks r) ∙ turned (is_clean r)
  where
    turned : (b : Bool) → cond (not b) Remarks Clean ≡ cond b Clean Remarks
    turned true = refl
    turned false = refl
