-- The results of testing a line.
use Rattle.dsr_file.proofs.Common.{◌≡◌, ℕ, ◌+◌, ◌≤◌, ◌∙◌, sym, ap, refl, true, false, List, [], ◌∷◌, length, None, Some, length-append, arith, rules, ◌-◌, ◌++◌, get_or, take, subst, inl, inr, Result, is_utf8, IsUtf8, cases_eq, cases_lt, le-ltb, lt-ltb, ne_eqb, append-nil, take_all, take_more, IsUtf8-append, IsUtf8-from_ascii, IsUtf8-from_is_utf8, nat_tests, line_limit, is_long, without_return, is_left_out, record_seen, id_of_record, kind_of_record, LayoutTable, record_of, Record, FileFault, Grammar, Good, Faulty, Reading, Holds, SkippedLine, reading, of_text, of_utf8, of_record, records, is_skipped_line, is_skipped_record, file_fault, events_of, fault_of, early_fault, counts_fault, stage_fault, Keeps, LineSteps, IsRecord, cond, kept}
use Rattle.dsr_records.specs.declared.checked.CheckedLine.{CheckedLine}
use Rattle.dsr_records.specs.declared.checked.CheckedLine.TheVariants as lines
use Rattle.dsr_records.specs.declared.fault.RecordFault.{RecordFault}
use Rattle.dsr_events.specs.declared.fault.FileFault.TheVariants as faults
use Rattle.dsr_file.specs.meaning.Readings as line
use Rattle.dsr_file.proofs.StageLemmas.{fault_agrees}
use Rattle.dsr_file.proofs.LineLemmas.{records-same, first_good}
use Rattle.dsr_file.proofs.AddLemmas.{count_by_push}

pub early_not_count : (rs : List Record) (r : Record) (f : FileFault) → early_fault rs r ≡ Some f → counts_fault f ≡ false
early_not_count rs r f e = grind arith

-- a record with an early fault
pub early_steps : (g h : Grammar) (ls : List Reading) (r : Record) (f : FileFault) → Keeps g ls
    → stage_fault g.stage (kind_of_record r) (id_of_record r) ≡ Some f → LineSteps ls (Holds r) (Faulty f) None h
unfolding fault_of
early_steps g h ls r f k e =
    let early : early_fault (records ls) r ≡ Some f = sym (fault_agrees g.stage (records ls) r k.stage_is) ∙ e in
    (rw early refl, rw (early_not_count (records ls) r f early) (sym (append-nil (events_of (records ls)))))

-- a record without an early fault
pub early_none : (g : Grammar) (ls : List Reading) (r : Record) → Keeps g ls → stage_fault g.stage (kind_of_record r) (id_of_record r) ≡ None
    → early_fault (records ls) r ≡ None
early_none g ls r k e = sym (fault_agrees g.stage (records ls) r k.stage_is) ∙ e

-- a line that has a fault itself
pub faulty_steps : (h : Grammar) (ls : List Reading) (f : FileFault) → counts_fault f ≡ false → LineSteps ls (line.Faulty f) (Faulty f) None h
unfolding fault_of
faulty_steps h ls f e = (refl, rw e (sym (append-nil (events_of (records ls)))))

pub own_not_count : (f : RecordFault) → counts_fault (file_fault f) ≡ false
own_not_count f = grind arith

-- a line without a record and without a fault
pub skip_steps : (g h : Grammar) (ls : List Reading) (l : Reading) → kept l ≡ [] → fault_of ls l ≡ None → Keeps g ls → h.stage ≡ g.stage
    → h.lines ≡ g.lines + 1 → h.skipped_lines ≡ g.skipped_lines + cond (is_skipped_line l) 1 0
    → h.skipped_records ≡ g.skipped_records + cond (is_skipped_record l) 1 0 → h.records ≡ g.records → h.summaries ≡ g.summaries → h.blocks ≡ g.blocks
    → LineSteps ls l Good None h
skip_steps g h ls l n f k s i a b r m o =
    let same = records-same ls l n in (
      record {
        good = first_good ls l k.good f;
        stage_is = rw (s, same) k.stage_is;
        lines_are = rw (i, k.lines_are) (sym (length-append ls (l ∷ [])));
        skipped_are = rw (a, k.skipped_are) (sym (count_by_push is_skipped_line ls l));
        types_are = rw (b, k.types_are) (sym (count_by_push is_skipped_record ls l));
        records_are = rw (r, same) k.records_are;
        summaries_are = rw (m, same) k.summaries_are;
        blocks_are = rw (o, same) k.blocks_are;
      },
      f,
      rw same (sym (append-nil (events_of (records ls)))),
    )

pub of_utf8_skipped : (layout : LayoutTable) (t : List ℕ) → is_left_out t ≡ true → of_utf8 layout t ≡ SkippedLine
unfolding of_utf8
of_utf8_skipped layout t e = rw e refl

-- the text of a line that is not skipped
pub of_utf8_record : (layout : LayoutTable) (t : List ℕ) (found : Result Record RecordFault) → is_left_out t ≡ false → found ≡ record_of layout t
    → of_utf8 layout t ≡ of_record found
unfolding of_utf8
of_utf8_record layout t found e f = rw e (ap of_record (sym f))

pub reading_text : (layout : LayoutTable) (line : List ℕ) → length line ≤ line_limit → is_utf8 (without_return line) ≡ true
    → reading layout line ≡ of_utf8 layout (without_return line)
unfolding reading of_text
reading_text layout line h u = let n : is_long line ≡ false = grind (arith, nat_tests) in rw (n, u) refl

pub reading_garbled : (layout : LayoutTable) (bytes : List ℕ) → length bytes ≤ line_limit → is_utf8 (without_return bytes) ≡ false
    → reading layout bytes ≡ line.Faulty faults.NotUtf8
unfolding reading of_text
reading_garbled layout bytes h u = let n : is_long bytes ≡ false = grind (arith, nat_tests) in rw (n, u) refl

-- a line is UTF-8 if it is without its carriage return
pub utf8_with_return : (line : List ℕ) → IsUtf8 (without_return line) → IsUtf8 line
utf8_with_return line h = elim (cases_lt 0 (length line)) [
  | inl some ↦ elim (cases_eq (get_or line (length line - 1) 0) 13) [
    | inl ret ↦
        let short : without_return line ≡ take (length line - 1) line = rw (lt-ltb 0 (length line) some, ret) refl in
        let whole : line ≡ take (length line - 1) line ++ 13 ∷ [] =
        sym (take_all (length line - 1 + 1) line (omega arith)) ∙ rw (← ret) (take_more line (length line - 1) 0 (omega arith)) in
        subst IsUtf8 (sym whole) (IsUtf8-append _ _ (subst IsUtf8 short h) (IsUtf8-from_ascii (13 ∷ []) (search rules)))
    | inr other ↦ subst IsUtf8 (rw (lt-ltb 0 (length line) some, ne_eqb _ _ other) refl) h
  ]
  | inr none ↦ subst IsUtf8 (rw (le-ltb 0 (length line) none) refl) h
]

pub utf8_false : (bs : List ℕ) → (IsUtf8 bs → ⊥) → is_utf8 bs ≡ false
utf8_false bs n = elim (is_utf8 bs) as (λ b. is_utf8 bs ≡ b → b ≡ false) [ true ↦ λ e. absurd (n (IsUtf8-from_is_utf8 bs e)) | false ↦ λ e. refl ] refl

-- a line that is not of a skipped type
pub real_record : (l : CheckedLine) → (l ≡ lines.Skipped → ⊥) → IsRecord (record_seen l)
real_record l n = grind arith
