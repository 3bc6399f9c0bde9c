-- Statements that are read one after another.
use Rattle.std.proofs.Math.Seq.{get_or-append_seam}
use Rattle.std.proofs.Common.{◌≡◌, ℕ, suc, ◌+◌, ◌<◌, ◌≤◌, ap, sym, ◌∙◌, refl, subst, Bool, List, [], ◌∷◌, ◌++◌, append_assoc, append-nil, length, length-append, get_or, set, arith, Ok, Err, Result}
use Rattle.std.proofs.lemmas.Grind.{flat_map-append}
use Rattle.std.proofs.lemmas.List.{map-append}
use Rattle.std.specs.Prelude.{map, option_map, Option, Some, None}
use Rattle.dsr_io.specs.meaning.Told.{Told}
use Rattle.dsr_statement.specs.meaning.Readings.{Refusal, IsReadingOf}
use Rattle.dsr_statement.specs.declared.line.Line.{Line}
use Rattle.dsr_sums.specs.declared.answer.TotalsError.{TotalsError}
use Rattle.dsr_sums.specs.declared.answer.TotalsError.TheVariants.{Refused, OutOfRange, Memory}
use Rattle.dsr_sums.specs.declared.answer.Totaling.{Totaling}
use Rattle.dsr_sums.specs.declared.reports.Role.{Role}
use Rattle.dsr_statement.specs.declared.fault.StatementFault.{StatementFault}
use Rattle.dsr_sums.specs.inner.Readings.{IsReadFrom, refusal, text_with}
use Rattle.std.specs.List.{flat_map}
use Rattle.dsr_sums.specs.declared.reports.StatementReport.{StatementReport}
use Rattle.dsr_sums.specs.declared.rules.Rules.{Rules}
use Rattle.dsr_sums.specs.declared.totals.Totals.{Totals}
use Rattle.dsr_sums.specs.inner.Books.{HoldsLines, AreSorted}
use Rattle.dsr_sums.specs.declared.reading.ReadingError.{ReadingError}
use Rattle.dsr_sums.specs.declared.reading.ReadingError.TheVariants as errors
use Rattle.dsr_sums.specs.inner.Totaling.{sorted_text, error_of, HaveRead, HoldsStatements, IsNoTextOf, ReadsNext}
use Rattle.dsr_sums.specs.meaning.Answers.{StatementText, accepted, and_then, joined, statement_in, statements_after, totals_of, unless}
use Rattle.dsr_sums.specs.meaning.Sources.{Gave, GaveEach, HasNoTotals, HasTotals, role_of}
use Rattle.dsr_sums.specs.meaning.Statements.{Statement, booked_lines, fault_after, reports_of, statement_lines, totals_text}
use Rattle.dsr_sums.specs.layer.Statements.{line_and_fault}
use Rattle.dsr_sums.specs.meaning.Totals.{booked, currency_line, market_line, party_line, sums_text}

pub booked-push : (ss : List Statement) (s : Statement) → booked_lines (ss ++ s ∷ []) ≡ booked_lines ss ++ map (booked s.report.role) s.lines
booked-push ss s =
    flat_map-append (λ s. map (booked s.report.role) s.lines) ss (s ∷ [])
    ∙ ap (λ l. booked_lines ss ++ l) (append-nil (map (booked s.report.role) s.lines))

pub reports-push : (ss : List Statement) (s : Statement) → reports_of (ss ++ s ∷ []) ≡ reports_of ss ++ s.report ∷ []
reports-push ss s = map-append (λ s. s.report) ss (s ∷ [])

-- one more text
pub after-push : (rules : Rules) (read : Result (List Statement) TotalsError) (texts : List StatementText) (t : StatementText)
    → statements_after rules read (texts ++ t ∷ []) ≡ and_then rules (statements_after rules read texts) t
after-push rules read [] t = refl
after-push rules read (s ∷ texts) t = after-push rules (and_then rules read s) texts t

module _ {R : Type 0} (told : R → Told) (given : ℕ) where
  -- sources that were not read
  pub unread : (place : ℕ) (rs : List R) → GaveEach told given place rs rs []
  unread place [] = tt
  unread place (r ∷ rs) = (refl, unread (suc place) rs)

  pub gave-append : (place : ℕ) (xs ys us vs : List R) (ts ws : List StatementText) → GaveEach told given place xs ys ts → length ts ≡ length xs
      → GaveEach told given (place + length xs) us vs ws → GaveEach told given place (xs ++ us) (ys ++ vs) (ts ++ ws)
  gave-append place [] [] us vs [] ws h e more = subst (λ p. GaveEach told given p us vs ws) (omega arith) more
  gave-append place (x ∷ xs) (y ∷ ys) us vs [] ws h e more = absurd (omega arith)
  gave-append place (x ∷ xs) (y ∷ ys) us vs (t ∷ ts) ws h e more =
      (h.0, h.1, gave-append (suc place) xs ys us vs ts ws h.2 (omega arith) (subst (λ p. GaveEach told given p us vs ws) (omega arith) more))
  gave-append place _ _ us vs _ ws h e more = absurd h

  pub gave-length : (place : ℕ) (xs ys : List R) (ts : List StatementText) → GaveEach told given place xs ys ts → length ys ≡ length xs
  gave-length place [] [] [] h = refl
  gave-length place (x ∷ xs) (y ∷ ys) [] h = ap suc (gave-length (suc place) xs ys [] h.1)
  gave-length place (x ∷ xs) (y ∷ ys) (t ∷ ts) h = ap suc (gave-length (suc place) xs ys ts h.2)
  gave-length place _ _ _ h = absurd h

-- the item after a list is set
set_mid : {X : Type 0} (xs ys : List X) (x q : X) → set (xs ++ x ∷ ys) (length xs) q ≡ xs ++ q ∷ ys
set_mid [] ys x q = refl
set_mid (z ∷ xs) ys x q = ap (λ l. z ∷ l) (set_mid xs ys x q)

-- sorted totals have this text
pub text_is : (t : Totals) (rs : List StatementReport) (ss : List Statement) → AreSorted t (booked_lines ss) → rs ≡ reports_of ss
    → sorted_text t rs ≡ totals_text ss
unfolding totals_text sums_text
text_is t rs ss sorted e i =
    statement_lines 1 (e i) (e i)
    ++ (flat_map currency_line (sorted.currencies i) ++ (flat_map market_line (sorted.markets i) ++ flat_map party_line (sorted.parties i)))

no_fault : (o : Option Refusal) → None ≡ option_map line_and_fault o → o ≡ None
no_fault o e = grind arith

-- a statement that was read and has no fault after the earlier ones
pub next_read : (old new : Totaling) (rules : Rules) (role : Role) (before left : Told) (report : StatementReport) (ss : List Statement) → HoldsStatements old ss
    → IsReadFrom before left rules.unsealed role old.totals new.totals (Ok report) → None ≡ option_map line_and_fault (fault_after rules old.reports.items report)
    → new.reports.items ≡ old.reports.items ++ report ∷ [] → ReadsNext rules before left role ss new (Ok tt)
next_read old new rules role before left report ss held (bytes, failed, was_read, is, gave, (ls, e, same, adds)) none pushed =
    let s : Statement = record { report = report; lines = ls } in (
      bytes,
      failed,
      was_read,
      is,
      gave,
      (
        s,
        ap (accepted rules ss) e ∙ ap (unless s) (ap (λ rs. fault_after rules rs report) (sym held.reports) ∙ no_fault _ none),
        record {
          lines =
              subst (HoldsLines new.totals) (sym (booked-push ss s)) (
              subst (λ o. HoldsLines new.totals (booked_lines ss ++ map (booked o) ls)) (sym same) (adds (booked_lines ss) held.lines));
          reports = pushed ∙ ap (λ rs. rs ++ report ∷ []) held.reports ∙ sym (reports-push ss s);
        },
      ),
    )

found : (o : Option Refusal) (line : ℕ) (fault : StatementFault) → Some (line, fault) ≡ option_map line_and_fault o → o ≡ Some (refusal line fault)
found None line fault e = absurd (cc)
found (Some r) line fault e =
    let pair : line_and_fault r ≡ (line, fault) = cc in ap (λ (p : ℕ × StatementFault). Some (refusal p.0 p.1)) pair

-- a statement that was read and has a fault after the earlier ones
pub next_refused : (old : Totaling) (after : Totals) (rules : Rules) (role : Role) (before left : Told) (report : StatementReport) (ss : List Statement)
    (line : ℕ) (fault : StatementFault) → HoldsStatements old ss → IsReadFrom before left rules.unsealed role old.totals after (Ok report)
    → Some (line, fault) ≡ option_map line_and_fault (fault_after rules old.reports.items report)
    → ReadsNext rules before left role ss old (Err (errors.Refused line fault))
next_refused old after rules role before left report ss line fault held (bytes, failed, was_read, is, gave, (ls, e, same, adds)) refused =
    let s : Statement = record { report = report; lines = ls } in
    let its = ap (λ rs. fault_after rules rs report) (sym held.reports) ∙ found _ line fault refused in
    (bytes, failed, was_read, is, gave, ap (accepted rules ss) e ∙ ap (unless s) its)

tail_of : {R : Type 0} (rest : List R) → 0 < length rest → (r : R) × (more : List R) × (rest ≡ r ∷ more)
tail_of [] h = absurd (omega arith)
tail_of (r ∷ more) h = (r, more, refl)

none_left : {R : Type 0} (rest : List R) → length rest ≡ 0 → rest ≡ []
none_left [] h = refl
none_left (r ∷ more) h = absurd (omega arith)

module _ {R : Type 0} (told : R → Told) (given : ℕ) (rules : Rules) where
  pub none_read : (before : List R) (t : Totaling) → HoldsStatements t [] → t.rules ≡ rules → HaveRead told given rules 0 before before t
  none_read before t holds same = record {
    front = [];
    changed = [];
    rest = before;
    texts = [];
    ss = [];
    was = refl;
    is = refl;
    places = refl;
    count = refl;
    many = refl;
    gave = tt;
    read = refl;
    holds = holds;
    rules_are = same;
  }

  module _ (place : ℕ) (before now : List R) (t : Totaling) (w : HaveRead told given rules place before now t) where
    changed_length : length w.changed ≡ place
    changed_length = gave-length told given 0 w.front w.changed w.texts w.gave ∙ w.places

    -- all sources were read
    all_given : length now ≤ place → GaveEach told given 0 before now w.texts × (length w.texts ≡ length before)
    all_given done =
        let none : w.rest ≡ [] = none_left w.rest (omega (arith, ap length w.is, length-append w.changed w.rest, changed_length)) in
        let was : w.front ≡ before = sym (w.was ∙ ap (λ l. w.front ++ l) none ∙ append-nil w.front) in
        let is : w.changed ≡ now = sym (w.is ∙ ap (λ l. w.changed ++ l) none ∙ append-nil w.changed) in
        (subst (λ b. GaveEach told given 0 b now w.texts) was (subst (λ a. GaveEach told given 0 w.front a w.texts) is w.gave), w.many ∙ sym w.places ∙ ap length was)

    pub all_read : length now ≤ place → (text : List ℕ) → totals_of (Ok w.ss) ≡ Ok text → HasTotals told given rules before now text
    all_read done text e = let all = all_given done in (w.texts, all.0, all.1, ap totals_of w.read ∙ e)

    pub all_out : length now ≤ place → (e : TotalsError) → IsNoTextOf w.ss e → HasNoTotals told given rules before now e
    all_out done (Refused p l f) h = absurd h
    all_out done OutOfRange h = let all = all_given done in (w.texts, all.0, all.1, ap totals_of w.read ∙ h)
    all_out done Memory h = tt

    module _ (below : place < length now) where
      next : (r : R) × (more : List R) × (w.rest ≡ r ∷ more)
      next = tail_of w.rest (omega (arith, ap length w.is, length-append w.changed w.rest, changed_length))

      now_is : now ≡ w.changed ++ next.0 ∷ next.1
      now_is = w.is ∙ ap (λ l. w.changed ++ l) next.2

      before_is : before ≡ w.front ++ next.0 ∷ next.1
      before_is = w.was ∙ ap (λ l. w.front ++ l) next.2

      got : (d : R) → get_or now place d ≡ next.0
      got d = (λ i. get_or (now_is i) (sym changed_length i) d) ∙ get_or-append_seam w.changed next.0 next.1 d

      set_is : (q : R) → set now place q ≡ w.changed ++ q ∷ next.1
      set_is q = (λ i. set (now_is i) (sym changed_length i) q) ∙ set_mid w.changed next.1 next.0 q

      -- the next source is as it was
      pub same_at : (d : R) → get_or before place d ≡ get_or now place d
      same_at d = (λ i. get_or (before_is i) (sym w.places i) d) ∙ get_or-append_seam w.front next.0 next.1 d ∙ sym (got d)

      pub before_below : place < length before
      before_below = omega (arith, ap length before_is, length-append w.front (next.0 ∷ next.1), w.places)

      module _ (d q : R) (bytes : List ℕ) (failed : Bool) (was_read : Result (List Line) Refusal) (is : IsReadingOf bytes failed was_read)
          (gave : Gave (told (get_or now place d)) (told q) (text_with (role_of given place) bytes failed was_read is)) where
        abbrev text : StatementText
        text = text_with (role_of given place) bytes failed was_read is

        gave_next : Gave (told next.0) (told q) text
        gave_next = subst (λ r. Gave (told r) (told q) text) (got d) gave

        role_is : text.role ≡ role_of given (0 + length w.front)
        role_is = ap (role_of given) (sym w.places ∙ omega arith)

        read_is : {x : Result Statement Refusal} → accepted rules w.ss (statement_in rules text) ≡ x
            → statements_after rules (Ok []) (w.texts ++ text ∷ []) ≡ joined w.ss x
        read_is e = after-push rules (Ok []) w.texts text ∙ ap (λ o. and_then rules o text) w.read ∙ ap (joined w.ss) e

        pub one_read : (t2 : Totaling) (s : Statement) → accepted rules w.ss (statement_in rules text) ≡ Ok s → HoldsStatements t2 (w.ss ++ s ∷ [])
            → t2.rules ≡ t.rules → HaveRead told given rules (place + 1) before (set now place q) t2
        one_read t2 s e holds same = record {
          front = w.front ++ next.0 ∷ [];
          changed = w.changed ++ q ∷ [];
          rest = next.1;
          texts = w.texts ++ text ∷ [];
          ss = w.ss ++ s ∷ [];
          was = before_is ∙ sym (append_assoc w.front (next.0 ∷ []) next.1);
          is = set_is q ∙ sym (append_assoc w.changed (q ∷ []) next.1);
          places = omega (arith, length-append w.front (next.0 ∷ []), w.places);
          count = omega (arith, length-append w.ss (s ∷ []), w.count);
          many = omega (arith, length-append w.texts (text ∷ []), w.many);
          gave = gave-append told given 0 w.front w.changed (next.0 ∷ []) (q ∷ []) w.texts (text ∷ []) w.gave (w.many ∙ sym w.places) (gave_next, role_is, tt);
          read = read_is e;
          holds = holds;
          rules_are = same ∙ w.rules_are;
        }

        pub one_refused : (line : ℕ) (fault : StatementFault) → accepted rules w.ss (statement_in rules text) ≡ Err (refusal line fault)
            → HasNoTotals told given rules before (set now place q) (Refused place line fault)
        one_refused line fault e =
            let each = gave-append told given 0 w.front w.changed (next.0 ∷ next.1) (q ∷ next.1) w.texts (text ∷ []) w.gave (w.many ∙ sym w.places)
            (gave_next, role_is, unread told given _ next.1) in (
              w.texts ++ text ∷ [],
              subst (λ b. GaveEach told given 0 b (set now place q) (w.texts ++ text ∷ [])) (sym before_is) (
                  subst (λ a. GaveEach told given 0 (w.front ++ next.0 ∷ next.1) a (w.texts ++ text ∷ [])) (sym (set_is q)) each),
              ap totals_of (read_is e) ∙ ap (λ n. Err (Refused n line fault)) w.count,
            )

      at_role : (d q : R) (t2 : Totaling) (role : Role) (result : Result (Unit {0}) ReadingError) → role ≡ role_of given place
          → ReadsNext t.rules (told (get_or now place d)) (told q) role w.ss t2 result
          → ReadsNext rules (told (get_or now place d)) (told q) (role_of given place) w.ss t2 result
      at_role d q t2 role result same h =
          subst (λ o. ReadsNext rules (told (get_or now place d)) (told q) o w.ss t2 result) same (
          subst (λ b. ReadsNext b (told (get_or now place d)) (told q) role w.ss t2 result) w.rules_are h)

      -- the next statement was read, or refused
      pub one_more : (d q : R) (t2 : Totaling) (role : Role) → role ≡ role_of given place → t2.rules ≡ t.rules
          → ReadsNext t.rules (told (get_or now place d)) (told q) role w.ss t2 (Ok tt)
          → HaveRead told given rules (place + 1) before (set now place q) t2
      one_more d q t2 role same kept h =
          let k = at_role d q t2 role (Ok tt) same h in one_read d q k.0 k.1 k.2 k.3 k.4 t2 k.5.0 k.5.1 k.5.2 kept

      pub no_more : (d q : R) (t2 : Totaling) (role : Role) (e : ReadingError) → role ≡ role_of given place
          → ReadsNext t.rules (told (get_or now place d)) (told q) role w.ss t2 (Err e)
          → HasNoTotals told given rules before (set now place q) (error_of place e)
      no_more d q t2 role errors.Memory same h = tt
      no_more d q t2 role (errors.Refused line fault) same h =
          let k = at_role d q t2 role (Err (errors.Refused line fault)) same h in one_refused d q k.0 k.1 k.2 k.3 k.4 line fault k.5
