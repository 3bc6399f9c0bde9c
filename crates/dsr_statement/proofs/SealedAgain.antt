-- The sealed statement of a readable report is a statement, and sealed.
use Rattle.std.proofs.Common.{arith, ◌≡◌, ◌<◌, ℕ, suc, ◌+◌, List, [], ◌∷◌, ◌++◌, length, map, true, false, cond, refl, ap, sym, subst, ◌∙◌, append_assoc, append-nil, Option, Some, None, Ok, nat_le}
use Rattle.std.specs.Prelude.{◌&&◌, reverse}
use Rattle.std.specs.List.{flat_map, list_all, list_any}
use Rattle.std.proofs.lemmas.Bool.{and_from, eq-eqb, le-leb}
use Rattle.std.proofs.lemmas.List.{length-reverse, reverse-append}
use Rattle.std.proofs.lemmas.List.Concat.{flat_map-cons}
use Rattle.std.proofs.lemmas.List.Folds.{list_all-append, list_any-append}
use Rattle.dsr_ledger.specs.meaning.Laws.{key_of_line}
use Rattle.dsr_ledger.specs.declared.report.ReportKey.{ReportKey}
use Rattle.dsr_ledger.specs.declared.report.FileLine.{FileLine}
use Rattle.dsr_ledger.specs.declared.report.LedgerLine.{LedgerLine}
use Rattle.dsr_ledger.specs.declared.report.PartyLine.{PartyLine}
use Rattle.dsr_ledger.specs.declared.report.Difference.{Difference}
use Rattle.dsr_ledger.specs.declared.report.Reject.{Reject}
use Rattle.dsr_ledger.specs.declared.report.Report.{Report}
use Rattle.dsr_statement.specs.declared.line.Line.{Line}
use Rattle.dsr_statement.specs.declared.line.Line.TheVariants as lines
use Rattle.dsr_statement.specs.declared.verdict.Status.{Status}
use Rattle.dsr_statement.specs.declared.verdict.Status.TheVariants as statuses
use Rattle.dsr_statement.specs.meaning.Digests.{Digest}
use Rattle.dsr_statement.specs.meaning.Lines.{is_line}
use Rattle.dsr_statement.specs.meaning.Order.{files_in, follows_layout, follows_reject, input_follows, is_complete, is_end, is_sealed, of_latest}
use Rattle.dsr_statement.specs.layer.Readings.{IsReading}
use Rattle.dsr_statement.specs.meaning.Seals.{inputs_from, origin_lines, seal_lines}
use Rattle.dsr_statement.specs.layer.Seals.{AreDigestsOf, seal_of, sealed_lines}
use Rattle.dsr_statement.specs.meaning.Statement.{files_from, head_of, lines_of_ledger, statement_lines, text_of}
use Rattle.dsr_statement.specs.layer.Statements.{AreInPlace, IsReadable, IsSealed, is_text}
use Rattle.dsr_statement.specs.meaning.Status.{is_remark, status_eq, status_of, status_of_lines}
use Rattle.dsr_statement.proofs.AgainTexts.{is_read_again}
use Rattle.dsr_statement.proofs.RemarkLines.{none_of_ledger, none_pass, report_status}
use Rattle.dsr_statement.proofs.ReportPlaces.{is_statement, placed_ok}
use Rattle.dsr_statement.proofs.Sealed.{any_reverse}
use Rattle.dsr_statement.proofs.SealTexts.{seal_texts}

-- lines behind others are in their places if they are behind these, whole
in_place_then : (before xs ys : List Line) → AreInPlace before xs → (is_complete (reverse xs ++ before) ≡ true → AreInPlace (reverse xs ++ before) ys)
    → AreInPlace before (xs ++ ys)
in_place_then before [] ys h then = then h
in_place_then before (x ∷ xs) ys h then =
    let same : reverse (x ∷ xs) ++ before ≡ reverse xs ++ (x ∷ before) = ap (λ b. b ++ before) (reverse-append (x ∷ []) xs) ∙ append_assoc (reverse xs) (x ∷ []) before in
    (h.0, in_place_then (x ∷ before) xs ys h.1 (λ whole. subst (λ (b : List Line). AreInPlace b ys) same (then (ap is_complete same ∙ whole))))

-- how many FILE lines there are
files_append : (a b : List Line) → files_in (a ++ b) ≡ files_in a + files_in b
files_append [] b = omega arith
files_append (lines.File place f ∷ a) b = omega (arith, files_append a b)
files_append (_ ∷ a) b = files_append a b

files_reverse : (ls : List Line) → files_in (reverse ls) ≡ files_in ls
files_reverse [] = refl
files_reverse (l ∷ ls) =
    omega (arith, ap files_in (reverse-append (l ∷ []) ls), files_append (reverse ls) (l ∷ []), files_append (l ∷ []) ls, files_reverse ls)

files_of : (place : ℕ) (fs : List FileLine) → files_in (files_from place fs) ≡ length fs
files_of place [] = refl
files_of place (f ∷ fs) = ap suc (files_of (suc place) fs)

files_of_others : {X : Type 0} (line : X → Line) → ((x : X) (ls : List Line) → files_in (line x ∷ ls) ≡ files_in ls) → (xs : List X) → files_in (map line xs) ≡ 0
files_of_others line is [] = refl
files_of_others line is (x ∷ xs) = is x (map line xs) ∙ files_of_others line is xs

files_of_ledger : (ls : List LedgerLine) → files_in (flat_map lines_of_ledger ls) ≡ 0
files_of_ledger [] = refl
files_of_ledger (l ∷ ls) =
    ap files_in (flat_map-cons lines_of_ledger l ls)
    ∙ simp files_append (rw (files_of_others (λ (p : PartyLine). lines.Party (key_of_line l) p) (λ p ls. refl) l.parties, files_of_ledger ls) refl)

files_of_head : (key : Option ReportKey) (ls : List Line) → files_in (head_of key ∷ ls) ≡ files_in ls
files_of_head (Some key) ls = refl
files_of_head None ls = refl

files_of_report : (r : Report) → files_in (statement_lines r) ≡ length r.files
files_of_report r =
    simp (files_of_head, files_append) (rw (
      files_of 1 r.files,
      files_of_others (λ (n : ℕ). lines.Missing n) (λ n ls. refl) r.missing,
      files_of_others (λ (d : Difference). lines.Summary d) (λ d ls. refl) r.differences,
      files_of_ledger r.ledger,
      files_of_others (λ (x : Reject). lines.Reject x) (λ x ls. refl) r.rejects,
    ) (omega arith))

-- no line of a report is END
no_end_files : (place : ℕ) (fs : List FileLine) → list_any is_end (files_from place fs) ≡ false
no_end_files place [] = refl
no_end_files place (f ∷ fs) = no_end_files (suc place) fs

no_end_head : (key : Option ReportKey) → is_end (head_of key) ≡ false
no_end_head (Some key) = refl
no_end_head None = refl

no_end_report : (r : Report) → list_any is_end (statement_lines r) ≡ false
no_end_report r =
    simp list_any-append (rw (
      no_end_head r.key,
      no_end_files 1 r.files,
      none_pass is_end (λ (n : ℕ). lines.Missing n) (λ n. refl) r.missing,
      none_pass is_end (λ (d : Difference). lines.Summary d) (λ d. refl) r.differences,
      none_of_ledger is_end (λ key usages amount. refl) (λ key p. refl) (λ key amount. refl) r.ledger,
      none_pass is_end (λ (x : Reject). lines.Reject x) (λ x. refl) r.rejects,
    ) refl)

-- lines that are whole and have no END are ready for a seal
ready : (before : List Line) → list_any is_end before ≡ false → is_complete before ≡ true → of_latest false follows_reject before ≡ true
ready (lines.End n s ∷ before) none h = cc
ready _ none h = h

-- INPUT lines, and END behind them
inputs_after : (place : ℕ) (d : Digest) (ds : List Digest) (before : List Line) (count : ℕ) (status : Status)
    → files_in before ≡ place + length ds → count ≡ suc (length before) + length ds → status_eq status (status_of_lines before) ≡ true
    → AreInPlace (lines.Input place d ∷ before) (inputs_from (suc place) ds ++ lines.End count status ∷ [])
inputs_after place d [] before count status files number is = (
  placed_ok (lines.Input place d ∷ before) (lines.End count status) (eq-eqb place (files_in before) (omega (arith, files))) refl
      (and_from _ _ (eq-eqb count (suc (length before)) (omega (arith, number))) is) refl,
  refl,
)
inputs_after place d (e ∷ es) before count status files number is = (
  placed_ok (lines.Input place d ∷ before) (lines.Input (suc place) e)
      (and_from _ _ (eq-eqb (suc place) (suc place) refl) (le-leb (suc place) (files_in before) (omega (arith, files)))) refl refl refl,
  inputs_after (suc place) e es (lines.Input place d ∷ before) count status (omega (arith, files)) (omega (arith, number)) is,
)

first_input : (before : List Line) (files : ℕ) → of_latest false follows_layout before ≡ true → nat_le 1 files ≡ true
    → of_latest false (λ last. input_follows 1 last && nat_le 1 files) before ≡ true
first_input (lines.File place f ∷ before) files h some = some
first_input _ files h some = cc

inputs_in_place : (ds : List Digest) (before : List Line) (count : ℕ) (status : Status)
    → 0 < length ds → of_latest false follows_layout before ≡ true → files_in before ≡ length ds → count ≡ length before + length ds
    → status_eq status (status_of_lines before) ≡ true → AreInPlace before (inputs_from 1 ds ++ lines.End count status ∷ [])
inputs_in_place [] before count status some h files number is = absurd (omega arith)
inputs_in_place (d ∷ ds) before count status some h files number is = (
  placed_ok before (lines.Input 1 d) (first_input before (files_in before) h (le-leb 1 (files_in before) (omega (arith, files)))) refl refl refl,
  inputs_after 1 d ds before count status (omega (arith, files)) (omega (arith, number)) is,
)

inputs_length : (place : ℕ) (ds : List Digest) → length (inputs_from place ds) ≡ length ds
inputs_length place [] = refl
inputs_length place (d ∷ ds) = ap suc (inputs_length (suc place) ds)

layout_ready : (before : List Line) → of_latest false follows_reject before ≡ true → of_latest false follows_layout before ≡ true
layout_ready (lines.Layout d ∷ before) h = refl
layout_ready _ h = h

-- the seal stands behind lines that are ready for it
seal_in_place : (layout : Option Digest) (ds : List Digest) (before : List Line) (count : ℕ) (status : Status)
    → 0 < length ds → of_latest false follows_reject before ≡ true → files_in before ≡ length ds → count ≡ length before
    → status_eq status (status_of_lines before) ≡ true → AreInPlace before (seal_lines layout ds count status)
seal_in_place None ds before count status some h files number is =
    inputs_in_place ds before (count + length (inputs_from 1 ds)) status some (layout_ready before h) files
    (omega (arith, number, inputs_length 1 ds)) is
seal_in_place (Some d) ds before count status some h files number is = (
  placed_ok before (lines.Layout d) h refl refl refl,
  inputs_in_place ds (lines.Layout d ∷ before) (count + suc (length (inputs_from 1 ds))) status some refl files
      (omega (arith, number, inputs_length 1 ds)) is,
)

same_status : (s t : Status) → s ≡ t → status_eq s t ≡ true
same_status s t e = ap (status_eq s) (sym e) ∙ itself s
  where
    itself : (x : Status) → status_eq x x ≡ true
    itself statuses.Clean = refl
    itself statuses.Remarks = refl

module _ (key : ReportKey) (r : Report) (h : IsReadable key r) (layout : Option Digest) (inputs : List Digest) (d : AreDigestsOf layout inputs r) where
  places : AreInPlace [] (sealed_lines layout inputs r)
  places =
      let none = append-nil (reverse (statement_lines r)) in
      let of_report : status_of r ≡ status_of_lines (reverse (statement_lines r)) =
      sym (report_status r) ∙ ap (λ b. cond b statuses.Remarks statuses.Clean) (any_reverse is_remark (statement_lines r)) in
      in_place_then [] (statement_lines r) (seal_of layout inputs r) (is_statement key r h).places
      (λ whole. subst (λ (b : List Line). AreInPlace b (seal_of layout inputs r)) (sym none)
      (seal_in_place layout inputs (reverse (statement_lines r)) (length (statement_lines r)) (status_of r) (omega (arith, h.files, d.each))
      (ready (reverse (statement_lines r)) (sym (any_reverse is_end (statement_lines r)) ∙ no_end_report r) (ap is_complete (sym none) ∙ whole))
      (files_reverse (statement_lines r) ∙ files_of_report r ∙ sym d.each) (sym (length-reverse (statement_lines r)))
      (same_status (status_of r) (status_of_lines (reverse (statement_lines r))) of_report)))

  -- they are a statement, and sealed
  pub is_sealed_statement : IsSealed (sealed_lines layout inputs r)
  is_sealed_statement =
      let one = is_statement key r h in
      let end = lines.End (length (statement_lines r) + length (origin_lines layout inputs)) (status_of r) ∷ [] in
      let whole : (statement_lines r ++ origin_lines layout inputs) ++ end ≡ sealed_lines layout inputs r =
      append_assoc (statement_lines r) (origin_lines layout inputs) end in
      record {
        statement =
            record {
              spelled =
                  list_all-append is_line (statement_lines r) (seal_of layout inputs r)
                  ∙ and_from (list_all is_line (statement_lines r)) (list_all is_line (seal_of layout inputs r)) one.spelled d.spelled;
              texts =
                  list_all-append is_text (statement_lines r) (seal_of layout inputs r)
                  ∙ and_from (list_all is_text (statement_lines r)) (list_all is_text (seal_of layout inputs r)) one.texts
                  (seal_texts layout inputs (length (statement_lines r)) (status_of r) d.spelled);
              places = places;
            };
        sealed = ap (λ ls. is_sealed (reverse ls)) (sym whole) ∙ ap is_sealed (reverse-append (statement_lines r ++ origin_lines layout inputs) end);
      }

  pub sealed_again : IsReading (text_of (sealed_lines layout inputs r)) (Ok (sealed_lines layout inputs r))
  sealed_again = is_read_again (sealed_lines layout inputs r) is_sealed_statement.statement
