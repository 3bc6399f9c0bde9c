-- A statement that is read from a source.
use Rattle.std.proofs.Common.{◌≡◌, ◌⊎◌, inl, inr, ℕ, suc, ◌<◌, arith, ap, sym, ◌∙◌, refl, subst, Bool, true, false, List, [], ◌++◌, append_assoc, append-nil, length, take, drop, Ok, Err, Result}
use Rattle.std.proofs.lemmas.List.{length-reverse, take-append-drop}
use Rattle.std.specs.Io.KnownBytes.{Consumes, IsAtEnd, Keeps}
use Rattle.std.specs.Prelude.{reverse, Option, Some, None, map}
use Rattle.dsr_io.specs.meaning.Told.{Told}
use Rattle.dsr_statement.specs.declared.line.Line.{Line}
use Rattle.dsr_statement.specs.declared.fault.StatementFault.{StatementFault}
use Rattle.dsr_statement.specs.meaning.Readings.{most_bytes, IsReadingOf, Refusal, end_fault, ended}
use Rattle.dsr_statement.specs.declared.fault.StatementFault.TheVariants as faults
use Rattle.std.proofs.lemmas.Bool.{lt-ltb}
use Rattle.dsr_sums.specs.declared.reading.Reading.{Reading}
use Rattle.dsr_sums.specs.declared.reading.ReadingError.{ReadingError}
use Rattle.dsr_sums.specs.declared.reading.ReadingError.TheVariants as errors
use Rattle.dsr_sums.specs.declared.reports.StatementReport.{StatementReport}
use Rattle.dsr_sums.specs.declared.reports.Role.{Role}
use Rattle.dsr_sums.specs.declared.totals.Totals.{Totals}
use Rattle.dsr_sums.specs.inner.Books.{HoldsLines}
use Rattle.dsr_sums.specs.inner.Readings.{FinishesAt, HasNoLineFeed, IsReadFrom, IsReading, IsRefusedIn, ReadAs, Reads, TakesLines, pieces, refusal, text_with, with_lines}
use Rattle.dsr_sums.specs.meaning.Answers.{StatementText, statement_of, whole_statement}
use Rattle.dsr_sums.specs.meaning.Sources.{Gave, IsSettled}
use Rattle.dsr_sums.specs.meaning.Totals.{booked}
use Rattle.dsr_sums.proofs.ReadingLemmas.{at_end, long_end, long_line, map_pair, more_lines, no_lines, refused_after_lines, turn}

pub consumes_more : (a b c : Option (List ℕ)) (xs ys : List ℕ) → Consumes a b xs → Consumes b c ys → Consumes a c (xs ++ ys)
consumes_more None b c xs ys h k = tt
consumes_more (Some a) None c xs ys h k = absurd h
consumes_more (Some a) (Some b) None xs ys h k = absurd k
consumes_more (Some a) (Some b) (Some c) xs ys h k = h ∙ ap (λ l. xs ++ l) k ∙ sym (append_assoc xs ys c)

pub consumes_kept : (a b c : Option (List ℕ)) (xs : List ℕ) → Consumes a b xs → Keeps b c → Consumes a c xs
consumes_kept None b c xs h k = tt
consumes_kept (Some a) None c xs h k = absurd h
consumes_kept (Some a) (Some b) None xs h k = absurd k
consumes_kept (Some a) (Some b) (Some c) xs h k = h ∙ ap (λ l. xs ++ l) (sym k)

pub consumes_none : (a : Option (List ℕ)) → Consumes a a []
consumes_none None = tt
consumes_none (Some a) = refl

-- nothing was read yet
pub nothing_read : (told : Told) (role : Role) (t : Totals) (r : Reading) (kept : List ℕ) → told.failed ≡ false → r.role ≡ role → Reads r []
    → kept ≡ [] → IsReading told told role t t r kept
nothing_read told role t r kept sound same reads none = record {
  bytes = [];
  ls = [];
  consumed = subst (Consumes told.remaining told.remaining) (sym none) (consumes_none told.remaining);
  sound = sound;
  role_is = same;
  reads = reads;
  lines = no_lines [];
  added = λ bs h. subst (HoldsLines t) (sym (append-nil bs)) h;
  short = subst HasNoLineFeed (sym none) (λ k d below. absurd (omega arith));
}

module _ (before now : Told) (unsealed : Bool) (role : Role) (start totals : Totals) (r : Reading) (kept : List ℕ)
    (w : IsReading before now role start totals r kept) where
  -- what is read at the end
  abbrev end_read : Bool → Result (List Line) Refusal
  end_read failed = with_lines w.ls (ended (reverse w.ls) (end_fault (reverse w.ls) kept failed))

  pub read_at_end : (failed : Bool) → IsReadingOf (w.bytes ++ kept) failed (end_read failed)
  read_at_end failed = w.lines kept failed (ended (reverse w.ls) (end_fault (reverse w.ls) kept failed)) (at_end w.ls kept failed w.short)

  abbrev end_text : Bool → StatementText
  end_text failed = text_with role (w.bytes ++ kept) failed (end_read failed) (read_at_end failed)

  whole_read : (failed : Bool) → end_fault (reverse w.ls) kept failed ≡ None
      → statement_of unsealed role (end_read failed) ≡ whole_statement unsealed role w.ls
  whole_read failed e =
      ap (statement_of unsealed role) (ap (λ o. with_lines w.ls (ended (reverse w.ls) o)) e ∙ ap Ok (append-nil w.ls))

  end_refused : (failed : Bool) (fault : StatementFault) → end_fault (reverse w.ls) kept failed ≡ Some fault
      → end_read failed ≡ Err (refusal (suc (length w.ls)) fault)
  end_refused failed fault e =
      ap (λ o. with_lines w.ls (ended (reverse w.ls) o)) e ∙ ap (λ n. Err (refusal (suc n) fault)) (length-reverse w.ls)

  -- the statement ended
  read_as : (failed : Bool) (result : Result StatementReport ReadingError) → FinishesAt unsealed role w.ls kept failed result
      → ReadAs role start totals (statement_of unsealed role (end_read failed)) result
  read_as failed (Ok report) h = (w.ls, whole_read failed h.0 ∙ h.1, h.2, w.added)
  read_as failed (Err (errors.Refused line fault)) (inl h) =
      ap (statement_of unsealed role) (end_refused failed fault h.0) ∙ ap (λ n. Err (refusal n fault)) (sym h.1)
  read_as failed (Err (errors.Refused line fault)) (inr h) = whole_read failed h.0 ∙ h.1
  read_as failed (Err errors.Memory) h = tt

  pub finished : (failed : Bool) (left : Told) (result : Result StatementReport ReadingError)
      → ((done : List Line) → Reads r done → FinishesAt unsealed r.role done kept failed result)
      → Consumes before.remaining left.remaining (w.bytes ++ kept) → left.failed ≡ failed
      → (IsAtEnd left.remaining ⊎ ((failed ≡ true) ⊎ IsSettled (end_text failed)))
      → IsReadFrom before left unsealed role start totals result
  finished failed left result ends consumed failure whole =
      by result (read_as failed result (subst (λ o. FinishesAt unsealed o w.ls kept failed result) w.role_is (ends w.ls w.reads)))
    where
      gave : Gave before left (end_text failed)
      gave = record { consumed = consumed; failure = failure; whole = whole }

      by : (result : Result StatementReport ReadingError) → ReadAs role start totals (statement_of unsealed role (end_read failed)) result
          → IsReadFrom before left unsealed role start totals result
      by (Ok report) h = (w.bytes ++ kept, failed, end_read failed, read_at_end failed, gave, h)
      by (Err (errors.Refused line fault)) h = (w.bytes ++ kept, failed, end_read failed, read_at_end failed, gave, h)
      by (Err errors.Memory) h = tt

  -- a line that is too long settles the text
  pub long_settles : most_bytes < length kept → IsSettled (end_text false)
  long_settles long more failed =
      let all = refused_after_lines [] w.bytes (kept ++ more) w.ls failed _ w.lines (long_line w.ls kept w.short long more failed) in
      let fault = end_refused false faults.LongLine (long_end (reverse w.ls) kept false (lt-ltb most_bytes (length kept) long)) in
      turn [] failed all (ap pieces (sym (append_assoc w.bytes kept more))) (sym fault)

  -- the line so far is too long
  pub finished_long : (result : Result StatementReport ReadingError) → most_bytes < length kept
      → ((done : List Line) → Reads r done → FinishesAt unsealed r.role done kept false result) → IsReadFrom before now unsealed role start totals result
  finished_long result long ends = finished false now result ends w.consumed w.sound (inr (inr (long_settles long)))

  -- the source is at its end
  pub finished_whole : (left : Told) (piece : List ℕ) (result : Result StatementReport ReadingError) → Consumes now.remaining left.remaining piece
      → (piece ≡ []) × IsAtEnd left.remaining → left.failed ≡ now.failed
      → ((done : List Line) → Reads r done → FinishesAt unsealed r.role done kept false result) → IsReadFrom before left unsealed role start totals result
  finished_whole left piece result more none same ends =
      let nothing : Consumes now.remaining left.remaining [] = subst (Consumes now.remaining left.remaining) none.0 more in
      let all = consumes_more before.remaining now.remaining left.remaining (w.bytes ++ kept) [] w.consumed nothing in
      finished false left result ends (subst (Consumes before.remaining left.remaining) (append-nil (w.bytes ++ kept)) all) (same ∙ w.sound) (inl none.1)

  -- a read failed
  pub finished_failed : (left : Told) (result : Result StatementReport ReadingError) → Keeps now.remaining left.remaining → left.failed ≡ true
      → ((done : List Line) → Reads r done → FinishesAt unsealed r.role done kept true result) → IsReadFrom before left unsealed role start totals result
  finished_failed left result keeps failure ends =
      finished true left result ends (consumes_kept before.remaining now.remaining left.remaining (w.bytes ++ kept) w.consumed keeps) failure (inr (inl refl))

  module _ (next : Told) (piece : List ℕ) (consumed : Consumes now.remaining next.remaining piece) (sound : next.failed ≡ false) where
    more_consumed : Consumes before.remaining next.remaining (w.bytes ++ (kept ++ piece))
    more_consumed =
        subst (Consumes before.remaining next.remaining) (append_assoc w.bytes kept piece)
        (consumes_more before.remaining now.remaining next.remaining (w.bytes ++ kept) piece w.consumed consumed)

    -- a line that was read has a fault
    pub refused_within : (e : ReadingError) → ((done : List Line) → Reads r done → IsRefusedIn done (kept ++ piece) e)
        → IsReadFrom before next unsealed role start totals (Err e)
    refused_within errors.Memory h = tt
    refused_within (errors.Refused line fault) h =
        let text = w.bytes ++ (kept ++ piece) in
        let e = λ (rest : List ℕ) (b : Bool). refused_after_lines [] w.bytes ((kept ++ piece) ++ rest) w.ls b (refusal line fault) w.lines (h w.ls w.reads rest b) in
        let here : IsReadingOf text false (Err (refusal line fault)) = turn [] false (e [] false) (ap (λ l. pieces (w.bytes ++ l)) (append-nil (kept ++ piece))) refl in (
          text,
          false,
          Err (refusal line fault),
          here,
          record {
            consumed = more_consumed;
            failure = sound;
            whole = inr (inr (λ more failed. turn [] failed (e more failed) (ap pieces (sym (append_assoc w.bytes (kept ++ piece) more))) refl));
          },
          refl,
        )

    -- lines that were read
    pub read_more : (r2 : Reading) (t2 : Totals) (used : ℕ) → r2.role ≡ r.role
        → ((done : List Line) → Reads r done → TakesLines r r2 totals t2 done (take used (kept ++ piece)))
        → HasNoLineFeed (drop used (kept ++ piece)) → IsReading before next role start t2 r2 (drop used (kept ++ piece))
    read_more r2 t2 used same takes short =
        let all = kept ++ piece in let t = takes w.ls w.reads in
        record {
          bytes = w.bytes ++ take used all;
          ls = w.ls ++ t.0;
          consumed =
              subst (Consumes before.remaining next.remaining) (
              ap (λ l. w.bytes ++ l) (sym (take-append-drop used all)) ∙ sym (append_assoc w.bytes (take used all) (drop used all))) more_consumed;
          sound = sound;
          role_is = same ∙ w.role_is;
          reads = t.2;
          lines = more_lines [] w.bytes (take used all) w.ls t.0 w.lines t.1;
          added = λ bs h.
              subst (HoldsLines t2) (map_pair role w.ls t.0 bs) (
              subst (λ o. HoldsLines t2 ((bs ++ map (booked role) w.ls) ++ map (booked o) t.0)) w.role_is (t.3 (bs ++ map (booked role) w.ls) (w.added bs h)));
          short = short;
        }
