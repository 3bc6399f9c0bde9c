-- Lines that are read one after another.
use Rattle.std.proofs.Common.{◌≡◌, ℕ, suc, ◌+◌, ap, sym, ◌∙◌, refl, subst, Bool, true, false, cond, List, [], ◌∷◌, ◌++◌, append_assoc, append-nil, length, length-append, ◌<◌, take, drop, get_or, arith, inl, Ok, Err, Result}
use Rattle.std.proofs.lemmas.List.{length-reverse, reverse-append, reverse-reverse, length-take, get_or-take, take-append-drop, take_more, map-append}
use Rattle.std.proofs.lemmas.List.Sums.{fails_before_first, passes_at_first}
use Rattle.std.proofs.Math.Seq.{drop-cons}
use Rattle.std.proofs.lemmas.List.Splits.{slice_split_at, slice_split_none}
use Rattle.std.specs.Prelude.{◌==◌, ◌||◌, nat_lt, reverse, map, Option, Some, None}
use Rattle.dsr_ledger.specs.declared.report.ReportKey.{ReportKey}
use Rattle.std.proofs.lemmas.Bool.{lt-ltb, eqb-true}
use Rattle.std.proofs.lemmas.List.Elements.{All-head, All-tail}
use Rattle.std.specs.List.{slice_split, onto_first, position_or_len}
use Rattle.dsr_statement.specs.declared.fault.StatementFault.{StatementFault}
use Rattle.dsr_statement.specs.declared.line.Line.{Line}
use Rattle.dsr_statement.specs.declared.fault.StatementFault.TheVariants as faults
use Rattle.dsr_statement.specs.inner.After.{IsAfter}
use Rattle.dsr_statement.specs.meaning.Order.{is_sealed}
use Rattle.dsr_statement.specs.meaning.Status.{first_remark}
use Rattle.dsr_statement.specs.meaning.Readings.{most_bytes, IsNextLine, IsReadingAfter, Refusal, end_fault, ended, with_line}
use Rattle.dsr_sums.specs.declared.reading.ReadingError.{ReadingError}
use Rattle.dsr_sums.specs.declared.reading.ReadingError.TheVariants as errors
use Rattle.dsr_sums.specs.inner.Readings.{FinishesAt, pieces, HasNoLineFeed, with_lines, AreLinesOf, refusal, IsRefusedAt, IsRefusedIn, Reads, TakesLine, TakesLines}
use Rattle.dsr_sums.specs.inner.Books.{HoldsLines}
use Rattle.dsr_sums.specs.declared.reading.Reading.{Reading}
use Rattle.dsr_sums.specs.declared.reports.Role.{Role}
use Rattle.dsr_sums.specs.declared.totals.Totals.{Totals}
use Rattle.dsr_sums.specs.meaning.Totals.{Booked, booked}
use Rattle.dsr_sums.specs.meaning.Answers.{statement_with}
use Rattle.dsr_sums.specs.meaning.Statements.{key_of_line, key_of_lines, either}

with_line_is : (l : Line) (r : Result (List Line) Refusal) → with_line l r ≡ with_lines (l ∷ []) r
with_line_is l (Ok ls) = refl
with_line_is l (Err e) = refl

with_nothing : (r : Result (List Line) Refusal) → r ≡ with_lines [] r
with_nothing (Ok ls) = refl
with_nothing (Err e) = refl

with_both : (ls ms : List Line) (r : Result (List Line) Refusal) → with_lines ls (with_lines ms r) ≡ with_lines (ls ++ ms) r
with_both ls ms (Ok more) = ap Ok (sym (append_assoc ls ms more))
with_both ls ms (Err e) = refl

reverse-push : (ls : List Line) (l : Line) → reverse (ls ++ l ∷ []) ≡ l ∷ reverse ls
reverse-push ls l = reverse-append ls (l ∷ [])

-- text without a line feed joins the first piece
split_front : (text more q : List ℕ) (qs : List (List ℕ)) → HasNoLineFeed text → pieces more ≡ q ∷ qs → pieces (text ++ more) ≡ (text ++ q) ∷ qs
split_front [] more q qs short e = e
split_front (x ∷ text) more q qs short e =
    let first : (x == 10) ≡ false = All-head (λ b. (b == 10) ≡ false) x text short in
    ap (λ b. cond b ([] ∷ pieces (text ++ more)) (onto_first x (pieces (text ++ more)))) first
    ∙ ap (onto_first x) (split_front text more q qs (All-tail (λ b. (b == 10) ≡ false) x text short) e)

long_next : (before : List Line) (text : List ℕ) → nat_lt most_bytes (length text) ≡ true → IsNextLine before text (Err faults.LongLine)
long_next before text long = (Err faults.LongLine, inl (rw long refl), refl)

pub long_end : (before : List Line) (text : List ℕ) (failed : Bool) → nat_lt most_bytes (length text) ≡ true
    → end_fault before text failed ≡ Some faults.LongLine
long_end before text failed long = rw long refl

-- there is a first piece
split_some : (p : ℕ → Bool) (xs : List ℕ) → (q : List ℕ) × (qs : List (List ℕ)) × (slice_split p xs ≡ q ∷ qs)
split_some p [] = ([], [], refl)
split_some p (x ∷ xs) =
    let e = split_some p xs in
    elim (p x) as (λ b. (q : List ℕ) × (qs : List (List ℕ)) × (cond b ([] ∷ slice_split p xs) (onto_first x (slice_split p xs)) ≡ q ∷ qs))
    [ true ↦ ([], slice_split p xs, refl) | false ↦ (x ∷ e.0, e.1, ap (onto_first x) e.2) ]

-- the same reading, of other pieces or with another result
pub turn : (before : List Line) (failed : Bool) {ps qs : List (List ℕ)} {r s : Result (List Line) Refusal} → IsReadingAfter before ps failed r → ps ≡ qs → r ≡ s
    → IsReadingAfter before qs failed s
turn before failed {ps} {qs} {r} {s} h e d = subst (λ x. IsReadingAfter before qs failed x) d (subst (λ q. IsReadingAfter before q failed r) e h)

module _ (done : List Line) where
  -- no bytes are no lines
  pub no_lines : AreLinesOf done [] []
  no_lines rest failed r h =
      subst (λ ls. IsReadingAfter (reverse ls) (pieces rest) failed (with_lines [] r)) (append-nil done) (turn (reverse (done ++ [])) failed h refl (with_nothing r))

  -- bytes after bytes
  pub more_lines : (a b : List ℕ) (ls ms : List Line) → AreLinesOf done a ls → AreLinesOf (done ++ ls) b ms → AreLinesOf done (a ++ b) (ls ++ ms)
  more_lines a b ls ms first second rest failed r h =
      let after = subst (λ all. IsReadingAfter (reverse all) (pieces rest) failed r) (sym (append_assoc done ls ms)) h in
      turn (reverse done) failed (first (b ++ rest) failed (with_lines ms r) (second rest failed r after)) (ap pieces (sym (append_assoc a b rest))) (with_both ls ms r)

  module _ (text : List ℕ) (short : HasNoLineFeed text) where
    split : (rest : List ℕ) → pieces (text ++ 10 ∷ rest) ≡ text ∷ pieces rest
    split rest = slice_split_at (λ b. b == 10) text 10 rest short refl

    -- a line
    pub one_line : (l : Line) → IsNextLine (reverse done) text (Ok l) → AreLinesOf done (text ++ 10 ∷ []) (l ∷ [])
    one_line l next rest failed r h =
        let s = split_some (λ b. b == 10) rest in
        let after = turn (l ∷ reverse done) failed (subst (λ before. IsReadingAfter before (pieces rest) failed r) (reverse-push done l) h) s.2 refl in
        let here : IsReadingAfter (reverse done) (text ∷ s.0 ∷ s.1) failed (with_line l r) = (Ok l, next, (r, after, refl)) in
        turn (reverse done) failed here (sym (ap pieces (append_assoc text (10 ∷ []) rest) ∙ split rest ∙ ap (λ ps. text ∷ ps) s.2)) (with_line_is l r)

    -- a line that is refused
    pub refused_line : (fault : StatementFault) → IsNextLine (reverse done) text (Err fault) → (rest : List ℕ) (failed : Bool)
        → IsReadingAfter (reverse done) (pieces (text ++ 10 ∷ rest)) failed (Err (refusal (suc (length done)) fault))
    refused_line fault next rest failed =
        let s = split_some (λ b. b == 10) rest in
        let refused : Result (List Line) Refusal = Err (refusal (suc (length (reverse done))) fault) in
        let here : IsReadingAfter (reverse done) (text ∷ s.0 ∷ s.1) failed refused = (Err fault, next, refl) in
        turn (reverse done) failed here (sym (split rest ∙ ap (λ ps. text ∷ ps) s.2)) (ap (λ n. Err (refusal (suc n) fault)) (length-reverse done))

  long_pieces : (text : List ℕ) (qs : List (List ℕ)) (failed : Bool) → nat_lt most_bytes (length text) ≡ true
      → IsReadingAfter (reverse done) (text ∷ qs) failed (Err (refusal (suc (length done)) faults.LongLine))
  long_pieces text [] failed over =
      sym (ap (ended (reverse done)) (long_end (reverse done) text failed over) ∙ ap (λ n. Err (refusal (suc n) faults.LongLine)) (length-reverse done))
  long_pieces text (n ∷ ns) failed over =
      (Err faults.LongLine, long_next (reverse done) text over, ap (λ n. Err (refusal (suc n) faults.LongLine)) (sym (length-reverse done)))

  -- a line that is too long, whatever follows it
  pub long_line : (text : List ℕ) → HasNoLineFeed text → most_bytes < length text → (more : List ℕ) (failed : Bool)
      → IsReadingAfter (reverse done) (pieces (text ++ more)) failed (Err (refusal (suc (length done)) faults.LongLine))
  long_line text short long more failed =
      let s = split_some (λ b. b == 10) more in
      let far : most_bytes < length (text ++ s.0) = omega (arith, length-append text s.0) in
      turn (reverse done) failed (long_pieces (text ++ s.0) s.1 failed (lt-ltb most_bytes (length (text ++ s.0)) far)) (sym (split_front text more s.0 s.1 short s.2)) refl

  -- what is refused after lines is refused
  pub refused_after_lines : (a rest : List ℕ) (ls : List Line) (failed : Bool) (r : Refusal) → AreLinesOf done a ls
      → IsReadingAfter (reverse (done ++ ls)) (pieces rest) failed (Err r) → IsReadingAfter (reverse done) (pieces (a ++ rest)) failed (Err r)
  refused_after_lines a rest ls failed r first second = first rest failed (Err r) second

  -- the end
  pub at_end : (rest : List ℕ) (failed : Bool) → HasNoLineFeed rest
      → IsReadingAfter (reverse done) (pieces rest) failed (ended (reverse done) (end_fault (reverse done) rest failed))
  at_end rest failed short =
      let end : IsReadingAfter (reverse done) (rest ∷ []) failed (ended (reverse done) (end_fault (reverse done) rest failed)) = refl in
      turn (reverse done) failed end (sym (slice_split_none (λ b. b == 10) rest short)) refl

-- the report of one more line
pub key-push : (ls : List Line) (l : Line) → key_of_lines (ls ++ l ∷ []) ≡ either (key_of_lines ls) (key_of_line l)
key-push [] l = by (key_of_line l)
  where
    by : (o : Option ReportKey) → either o None ≡ o
    by (Some k) = refl
    by None = refl
key-push (m ∷ ls) l = ap (either (key_of_line m)) (key-push ls l) ∙ by (key_of_line m)
  where
    by : (o : Option ReportKey) → either o (either (key_of_lines ls) (key_of_line l)) ≡ either (either o (key_of_lines ls)) (key_of_line l)
    by (Some k) = refl
    by None = refl

module _ (rest : List ℕ) (end : ℕ) (is : end ≡ position_or_len (λ b. b == 10) rest) where
  -- the line before the next line feed has none
  pub cut_short : HasNoLineFeed (take end rest)
  cut_short k d below =
      let within : k < end = omega (arith, length-take end rest) in
      ap (λ b. b == 10) (get_or-take end rest k d within) ∙ fails_before_first (λ b. b == 10) rest k d (subst (λ n. k < n) is within)

  module _ (below : end < length rest) where
    feed : get_or rest end 0 ≡ 10
    feed = eqb-true (get_or rest end 0) 10 (
        ap (λ n. get_or rest n 0 == 10) is ∙ passes_at_first (λ b. b == 10) rest 0 (subst (λ n. n < length rest) is below))

    -- bytes up to the next line feed, and those after it
    pub cut_at : rest ≡ take end rest ++ 10 ∷ drop (suc end) rest
    cut_at =
        sym (take-append-drop end rest) ∙ ap (λ l. take end rest ++ l) (drop-cons rest end 0 below)
        ∙ ap (λ b. take end rest ++ b ∷ drop (suc end) rest) feed

    pub cut_past : take (end + 1) rest ≡ take end rest ++ 10 ∷ []
    cut_past = take_more rest end 0 below ∙ ap (λ b. take end rest ++ b ∷ []) feed

-- a line that is refused after lines
pub refused_in : (done ls : List Line) (a text rest : List ℕ) (e : ReadingError) → AreLinesOf done a ls → HasNoLineFeed text
    → IsRefusedAt (done ++ ls) text e → IsRefusedIn done (a ++ (text ++ 10 ∷ rest)) e
refused_in done ls a text rest (errors.Refused line fault) are short h = λ more failed.
    let all = refused_after_lines done a (text ++ 10 ∷ (rest ++ more)) ls failed (refusal (suc (length (done ++ ls))) fault) are
    (refused_line (done ++ ls) text short fault h.1 (rest ++ more) failed) in
    turn (reverse done) failed all (ap pieces (sym (append_assoc a (text ++ 10 ∷ rest) more ∙ ap (λ l. a ++ l) (append_assoc text (10 ∷ rest) more))))
    (ap (λ n. Err (refusal n fault)) (sym h.0))
refused_in done ls a text rest errors.Memory are short h = tt

pub map_pair : (role : Role) (ls ms : List Line) (bs : List Booked) → (bs ++ map (booked role) ls) ++ map (booked role) ms ≡ bs ++ map (booked role) (ls ++ ms)
map_pair role ls ms bs =
    append_assoc bs (map (booked role) ls) (map (booked role) ms) ∙ ap (λ l. bs ++ l) (sym (map-append (booked role) ls ms))

-- nothing was taken yet
pub takes_none : (r : Reading) (t : Totals) (done : List Line) → Reads r done → TakesLines r r t t done []
takes_none r t done reads =
    ([], no_lines done, subst (Reads r) (sym (append-nil done)) reads, λ bs h. subst (HoldsLines t) (sym (append-nil bs)) h)

-- one more line was taken
pub takes_more : (r0 r1 r2 : Reading) (t0 t1 t2 : Totals) (done : List Line) (a text : List ℕ) → r1.role ≡ r0.role → HasNoLineFeed text
    → ((ds : List Line) → Reads r1 ds → TakesLine r1 r2 t1 t2 ds text) → TakesLines r0 r1 t0 t1 done a
    → TakesLines r0 r2 t0 t2 done (a ++ (text ++ 10 ∷ []))
takes_more r0 r1 r2 t0 t1 t2 done a text same short take first =
    let ls = first.0 in let one = take (done ++ ls) first.2 in let l = one.0 in (
      ls ++ l ∷ [],
      more_lines done a (text ++ 10 ∷ []) ls (l ∷ []) first.1 (one_line (done ++ ls) text short l one.1),
      subst (Reads r2) (append_assoc done ls (l ∷ [])) one.2,
      λ bs h.
          subst (HoldsLines t2) (map_pair r0.role ls (l ∷ []) bs) (
          subst (λ role. HoldsLines t2 ((bs ++ map (booked r0.role) ls) ++ map (booked role) (l ∷ []))) same (
          one.3 (bs ++ map (booked r0.role) ls) (first.3 bs h))),
    )

-- one more line was read
pub reads_more : (r0 r1 : Reading) (done : List Line) (l : Line) → Reads r0 done → IsAfter r1.reader (l ∷ reverse done)
    → r1.key ≡ either r0.key (key_of_line l) → Reads r1 (done ++ l ∷ [])
reads_more r0 r1 done l reads after key = record {
  after = subst (IsAfter r1.reader) (sym (reverse-push done l)) after;
  key = key ∙ ap (λ k. either k (key_of_line l)) reads.key ∙ sym (key-push done l);
}

-- the statement ended, and has a report
pub finishes : (unsealed : Bool) (r : Reading) (done : List Line) (rest : List ℕ) (failed : Bool) (key : ReportKey) (remark : Option ℕ) → Reads r done
    → end_fault (reverse done) rest failed ≡ None → (unsealed || is_sealed (reverse done)) ≡ true → r.key ≡ Some key
    → remark ≡ first_remark 1 (reverse (reverse done))
    → FinishesAt unsealed r.role done rest failed (Ok (record { role = r.role; key = key; remark = remark }))
finishes unsealed r done rest failed key remark reads ends taken is found = (
  ends,
  ap (λ b. cond b (statement_with r.role done (key_of_lines done)) (Err (refusal (suc (length done)) faults.Unsealed))) taken
      ∙ ap (statement_with r.role done) (sym reads.key ∙ is)
      ∙ ap (λ m. Ok (record { report = record { role = r.role; key = key; remark = m }; lines = done })) (
      ap (first_remark 1) (sym (reverse-reverse done)) ∙ sym found),
  refl,
)
