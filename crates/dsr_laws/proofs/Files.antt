-- What the file of a text has: its opening, its blocks and its outcome.
use Rattle.dsr_laws.proofs.Common.{AllByRecursion, AllGood, AreFew, At, BlockParts, Bool, Ending, Err, EventPart, FileFault, First, Holds, IsUtf8-from_is_utf8, Kind, LayoutTable, List, None, Ok, OpeningParts, Option, Outcome, Reading, Record, RecordFault, Result, SkippedLine, Some, [], and_parts, arith, block_limit, block_of, but_last, closed, column, cond_both, cons_option, count_by, count_by-le-length, count_fault, counts_fault, drop, each_append, each_map, each_weaker, early_fault, events, events_of, fault_if, filter_map, first_from, first_if, has_id, is_identifier_text, is_left_out, is_line_feed, is_long, is_skipped_line, is_skipped_record, is_utf8, kept, lacks, last_is_line, last_of, leb-true, length, length-append, length-drop, length-slice_split, length-take, lines, lines_among, list_all, list_any, ltb-false, map, of_record, of_text, of_utf8, onto_first, opened, opening_of, opens, option_to_list, or_else, outcome, outcome_at, parts, pieces, place, reading, record_of, records, refl, suc, summaries, take, taken, true, usages, without_mark, without_return, works, works_then_usages, zero, ℕ, ◌&&◌, ◌++◌, ◌+◌, ◌-◌, ◌<◌, ◌^◌, ◌∷◌, ◌≡◌, ◌≤◌}
use Rattle.std.specs.Prelude.{nat_le}
use Rattle.std.specs.Option.{option_map}
use Rattle.dsr_events.specs.declared.event.EventPart.TheVariants as part
use Rattle.dsr_events.specs.declared.fault.Ending.TheVariants as endings
use Rattle.dsr_events.specs.declared.fault.FileFault.TheVariants as faults
use Rattle.dsr_events.specs.declared.fault.Outcome.TheVariants as outcomes
use Rattle.dsr_events.specs.declared.kinds.Kind.TheVariants as kinds
use Rattle.dsr_events.specs.declared.record.Record.TheVariants as of
use Rattle.dsr_records.specs.declared.fault.RecordFault.TheVariants as record_faults
unfoldable use Rattle.dsr_file.specs.meaning.Faults.{fault_of}
use Rattle.dsr_file.specs.meaning.Readings.{Faulty}
use Rattle.dsr_laws.proofs.Values.{IsText, pieces_lack, plain}
use Rattle.dsr_laws.proofs.Records.{IsHead, IsSummary, IsUsage, IsRecord, IfRecord, record_spelled}
use Rattle.dsr_laws.proofs.Common.{nat_tests, is_printed_fault, Placed, File, FileText, block_in, events_of_text, file_of, first, length-map, opening_in, outcome_in, placed, readings, pieces, without_mark}

-- a fault that a statement names, if there is one: memory was not refused
abbrev named : Option FileFault → Bool
named None = true
named (Some f) = is_printed_fault f

-- what a line is, of which a record is spelled
abbrev IsReading : Reading → Type 0
IsReading (Faulty f) = is_printed_fault f ≡ true
IsReading SkippedLine = Unit {0}
IsReading (Holds r) = IsRecord r

of_found : (found : Result Record RecordFault) → IfRecord found → IsReading (of_record found)
of_found (Ok r) h = h
of_found (Err record_faults.Many) h = refl
of_found (Err _) h = refl

each_take : (p : ℕ → Bool) (n : ℕ) (xs : List ℕ) → list_all p xs ≡ true → list_all p (take n xs) ≡ true
each_take p zero xs h = refl
each_take p (suc n) [] h = refl
each_take p (suc n) (x ∷ xs) h = grind (arith, each_take p n xs)

reading_spelled : (layout : LayoutTable) (line : List ℕ) → lacks 10 line ≡ true → IsReading (reading layout line)
unfolding reading of_text of_utf8
reading_spelled layout line h =
    let text = without_return line in let shorter = take (length line - 1) line in
    cond_both (is_long line) _ _ IsReading (λ e. refl) (λ short.
    cond_both (is_utf8 text) _ _ IsReading (λ u.
    cond_both (is_left_out text) _ _ IsReading (λ e. tt) (λ e.
    of_found (record_of layout text) (record_spelled layout text (record {
      utf8 = IsUtf8-from_is_utf8 text u;
      all = cond_both _ shorter line (λ t. lacks 10 t ≡ true) (λ k. each_take _ (length line - 1) line h) (λ k. h);
      short = cond_both _ shorter line (λ t. length t ≤ 8192) (λ k. grind (arith, nat_tests, length-take (length line - 1) line)) (λ k. ltb-false 8192 (length line) short);
    })))) (λ e. refl))

-- the lines of a text
among : (P : List ℕ → Type 0) (ending : Ending) (ps : List (List ℕ)) → AllByRecursion P ps → AllByRecursion P (lines_among ending ps)
among P ending [] h = tt
among P ending (p ∷ []) h = cond_both (last_is_line ending p) _ _ (AllByRecursion P) (λ e. h) (λ e. tt)
among P ending (p ∷ q ∷ ps) h = (h.0, among P ending (q ∷ ps) h.1)

among_few : (ending : Ending) (ps : List (List ℕ)) → length (lines_among ending ps) ≤ length ps
among_few ending [] = omega arith
among_few ending (p ∷ []) = grind arith
among_few ending (p ∷ q ∷ ps) = omega (arith, among_few ending (q ∷ ps))

lines_few : (bytes : List ℕ) (ending : Ending) → length (lines bytes ending) ≤ length bytes + 1
lines_few bytes ending =
    let text = without_mark bytes in
    let less : length text ≤ length bytes = cond_both _ (drop 3 bytes) bytes (λ t. length t ≤ length bytes) (λ e. omega (arith, length-drop 3 bytes)) (λ e. omega arith) in
    omega (arith, among_few ending (pieces bytes), length-slice_split is_line_feed text, count_by-le-length is_line_feed text)

-- a fault of a line is named
named_first : (a b : Option FileFault) → named a ≡ true → named b ≡ true → named (or_else a b) ≡ true
named_first a b p q = grind arith

place_named : (before : _) (kind : Kind) → named (place before kind) ≡ true
place_named before kind = grind arith

two_named : (a b : Bool) (f g : FileFault) → is_printed_fault f ≡ true → is_printed_fault g ≡ true → named (or_else (fault_if a f) (fault_if b g)) ≡ true
two_named a b f g p q = grind arith

early_named : (rs : List Record) (r : Record) → named (early_fault rs r) ≡ true
early_named rs (of.Head h) = place_named (column (last_of rs)) kinds.Head
early_named rs (of.Summary s) = named_first _ _ (place_named (column (last_of rs)) kinds.Summary) (two_named _ _ faults.SummaryTwice faults.ManySummaries refl refl)
early_named rs (of.Resource r) = place_named (column (last_of rs)) kinds.Resource
early_named rs (of.Work w) = named_first _ _ (place_named (column (last_of rs)) kinds.Work) (two_named _ _ faults.BlockNumber faults.LongBlock refl refl)
early_named rs (of.Usage u) = named_first _ _ (place_named (column (last_of rs)) kinds.Usage) (two_named _ _ faults.BlockNumber faults.LongBlock refl refl)
early_named rs (of.Foot f) = place_named (column (last_of rs)) kinds.Foot
early_named rs of.Skipped = refl

count_named : (rs : List Record) (m n : ℕ) (r : Record) → named (count_fault rs m n r) ≡ true
count_named rs m n (of.Foot f) = grind arith
count_named rs m n _ = refl

line_named : (before : List Reading) (l : Reading) → IsReading l → named (fault_of before l) ≡ true
unfolding fault_of
line_named before (Faulty f) h = h
line_named before SkippedLine h = refl
line_named before (Holds r) h =
    named_first _ _ (early_named (records before) r) (count_named (records before) (count_by is_skipped_record before) (count_by is_skipped_line before) r)

-- the first line that is not good, among so many
abbrev IsFirst : ℕ → First → Type 0
IsFirst n AllGood = Unit {0}
IsFirst n (At before l f) = AllByRecursion IsReading before × IsReading l × (length before + 1 ≤ n) × (is_printed_fault f ≡ true)

first_found : (n : ℕ) (before ls : List Reading) → AllByRecursion IsReading before → AllByRecursion IsReading ls → length before + length ls ≤ n
    → IsFirst n (first_from before ls)
first_found n before [] b h few = tt
first_found n before (l ∷ ls) b h few =
    by (fault_of before l) (line_named before l h.0)
    (first_found n (before ++ (l ∷ [])) ls (each_append IsReading before (l ∷ []) b (h.0, tt)) h.1 (omega (arith, length-append before (l ∷ []))))
  where
    by : (o : Option FileFault) → named o ≡ true → IsFirst n (first_from (before ++ (l ∷ [])) ls) → IsFirst n (first_if o before l (first_from (before ++ (l ∷ [])) ls))
    by None e rest = rest
    by (Some f) e rest = (b, h.0, omega arith, e)

-- at most m of some and n of others
few_append : {X : Type 0} (P : X → Type 0) (m n : ℕ) (xs ys : List X) → AreFew P m xs → AreFew P n ys → AreFew P (m + n) (xs ++ ys)
few_append P m n xs ys h k = (omega (arith, h.0, k.0, length-append xs ys), each_append P xs ys h.1 k.1)

-- the records that are taken
records_few : (ls : List Reading) → AllByRecursion IsReading ls → AreFew IsRecord (length ls) (records ls)
records_few [] h = (omega arith, tt)
records_few (l ∷ ls) h = let all = few_append IsRecord 1 (length ls) (kept l) (records ls) (own l h.0) (records_few ls h.1) in (omega (arith, all.0), all.1)
  where
    own : (l : Reading) → IsReading l → AreFew IsRecord 1 (kept l)
    own (Holds of.Skipped) h = (omega arith, tt)
    own (Holds _) h = (omega arith, (h, tt))
    own _ h = (omega arith, tt)

taken_few : (ls : List Reading) (first : First) → AllByRecursion IsReading ls → IsFirst (length ls) first → AreFew IsRecord (length ls) (taken ls first)
taken_few ls AllGood h f = records_few ls h
taken_few ls (At before l fault) h f =
    let all = records_few before f.0 in let more = records_few (before ++ (l ∷ [])) (each_append IsReading before (l ∷ []) f.0 (f.1, tt)) in
    cond_both (counts_fault fault) _ _ (λ rs. AreFew IsRecord (length ls) (records rs))
    (λ e. (omega (arith, f.2, more.0, length-append before (l ∷ [])), more.1)) (λ e. (omega (arith, f.2, all.0), all.1))

-- the parts of records: at most so many, each of such records
abbrev AreRecords : List Record → Type 0
AreRecords rs = AllByRecursion IsRecord rs

onto_few : (n : ℕ) (r : Record) (ps : List (List Record)) → IsRecord r → AreFew AreRecords (suc n) ps → AreFew AreRecords (suc n) (onto_first r ps)
onto_few n r [] h k = (omega arith, ((h, tt), tt))
onto_few n r (p ∷ ps) h k = (k.0, ((h, k.1.0), k.1.1))

parts_few : (rs : List Record) → AreRecords rs → AreFew AreRecords (suc (length rs)) (parts rs)
parts_few [] h = (omega arith, (tt, tt))
parts_few (r ∷ rs) h =
    let onto = onto_few (length rs) r (parts rs) h.0 (parts_few rs h.1) in
    cond_both (opens r) _ _ (AreFew AreRecords (suc (suc (length rs)))) (λ e. (omega (arith, onto.0), (tt, onto.1))) (λ e. (omega (arith, onto.0), onto.1))

but_last_few : (n : ℕ) (ps : List (List Record)) → AreFew AreRecords n ps → AreFew AreRecords n (but_last ps)
but_last_few n [] h = h
but_last_few n (p ∷ []) h = (omega arith, tt)
but_last_few n (p ∷ q ∷ ps) h = let rest = but_last_few (length (q ∷ ps)) (q ∷ ps) (omega arith, h.1.1) in (omega (arith, h.0, rest.0), (h.1.0, rest.1))

rest_few : (n : ℕ) (ps : List (List Record)) → AreFew AreRecords n ps → AreFew AreRecords n (drop 1 ps)
rest_few n [] h = h
rest_few n (p ∷ ps) h = (omega (arith, h.0), h.1.1)

-- a block, an opening and an outcome of a text
pub record IsBlock (b : BlockParts) : Type 0 where
  pub id : is_identifier_text 32 b.id ≡ true
  pub works : AllByRecursion (λ w. AllByRecursion (IsText plain) w.parties) b.works
  pub usages : AllByRecursion IsUsage b.usages
  pub few : length b.usages ≤ 63

pub record IsOpening (o : OpeningParts) : Type 0 where
  pub head : IsHead o.head
  pub summaries : AllByRecursion IsSummary o.summaries

abbrev pub IsOutcome : Outcome → Type 0
IsOutcome outcomes.Whole = Unit {0}
IsOutcome (outcomes.Fault line f) = (line < 2 ^ 64) × (is_printed_fault f ≡ true)

-- the works, the usages and the summaries among records
record AreMembers (rs : List Record) : Type 0 where
  works_ : AllByRecursion (λ w. AllByRecursion (IsText plain) w.parties) (works rs)
  usages_ : AllByRecursion IsUsage (usages rs)
  few : length (usages rs) ≤ length rs
  summaries_ : AllByRecursion IsSummary (summaries rs)

members : (rs : List Record) → AreRecords rs → AreMembers rs
members [] h = record { works_ = tt; usages_ = tt; few = omega arith; summaries_ = tt }
members (r ∷ rs) h = add r h.0 (members rs h.1)
  where
    add : (r : Record) → IsRecord r → AreMembers rs → AreMembers (r ∷ rs)
    add (of.Work w) k m = record { works_ = (k, m.works_); usages_ = m.usages_; few = omega (arith, m.few); summaries_ = m.summaries_ }
    add (of.Usage u) k m = record { works_ = m.works_; usages_ = (k, m.usages_); few = omega (arith, m.few); summaries_ = m.summaries_ }
    add (of.Summary s) k m = record { works_ = m.works_; usages_ = m.usages_; few = omega (arith, m.few); summaries_ = (k, m.summaries_) }
    add _ k m = record { works_ = m.works_; usages_ = m.usages_; few = omega (arith, m.few); summaries_ = m.summaries_ }

abbrev pub IfSome : {X : Type 0} → (X → Type 0) → Option X → Type 0
IfSome P None = Unit {0}
IfSome P (Some x) = P x

block_spelled : (rs : List Record) → AreRecords rs → IfSome IsBlock (block_of rs)
block_spelled [] h = tt
block_spelled (of.Resource r ∷ rs) h =
    let m = members rs h.1 in
    cond_both (works_then_usages rs && list_all (has_id r.block_id) rs && nat_le (length rs + 1) block_limit) _ _ (IfSome IsBlock) (λ e. record {
      id = h.0;
      works = m.works_;
      usages = m.usages_;
      few = omega (arith, m.few, leb-true (length rs + 1) 64 (and_parts _ _ e).1);
    }) (λ e. tt)
block_spelled (_ ∷ rs) h = tt

opening_spelled : (rs : List Record) → AreRecords rs → IfSome IsOpening (opening_of rs)
opening_spelled [] h = tt
opening_spelled (of.Head r ∷ rs) h = record { head = h.0; summaries = (members rs h.1).summaries_ }
opening_spelled (_ ∷ rs) h = tt

-- an event of a text
abbrev IsPart : EventPart → Type 0
IsPart (part.Opened o) = IsOpening o
IsPart (part.Block b) = IsBlock b
IsPart (part.Ended o) = IsOutcome o

opened_few : (rs : List Record) → AreRecords rs → AreFew IsPart 1 (opened rs)
opened_few rs h = cond_both (list_any opens rs) _ _ (AreFew IsPart 1) (λ e. one (opening_of rs) (opening_spelled rs h)) (λ e. (omega arith, tt))
  where
    one : (o : Option OpeningParts) → IfSome IsOpening o → AreFew IsPart 1 (option_to_list (option_map part.Opened o))
    one None h = (omega arith, tt)
    one (Some o) h = (omega arith, (h, tt))

blocks_few : (ps : List (List Record)) → AllByRecursion AreRecords ps → AreFew IsPart (length ps) (map part.Block (filter_map block_of ps))
blocks_few [] h = (omega arith, tt)
blocks_few (p ∷ ps) h = one (block_of p) (block_spelled p h.0) (blocks_few ps h.1)
  where
    one : (o : Option BlockParts) → IfSome IsBlock o → AreFew IsPart (length ps) (map part.Block (filter_map block_of ps))
        → AreFew IsPart (suc (length ps)) (map part.Block (cons_option o (filter_map block_of ps)))
    one None h k = (omega (arith, k.0), k.1)
    one (Some b) h k = (omega (arith, k.0), (h, k.1))

events_of_few : (n : ℕ) (rs : List Record) → AreFew IsRecord n rs → AreFew IsPart (n + 2) (events_of rs)
unfolding events_of
events_of_few n rs h =
    let most = suc (length rs) in let ps = rest_few most (but_last (parts rs)) (but_last_few most (parts rs) (parts_few rs h.1)) in
    let all = few_append IsPart 1 (length (closed rs)) (opened rs) (map part.Block (filter_map block_of (closed rs))) (opened_few rs h.1) (blocks_few (closed rs) ps.1) in
    (omega (arith, all.0, ps.0, h.0), all.1)

ended_named : (last : Option Record) (ending : Ending) (line : ℕ) → line < 2 ^ 64 → IsOutcome (outcome_at (column last) ending line)
ended_named last endings.Read line low = (low, refl)
ended_named last endings.Reads line low = (low, refl)
ended_named (Some (of.Foot x)) endings.Whole line low = tt
ended_named None endings.Whole line low = (low, refl)
ended_named _ endings.Whole line low = (low, refl)

outcome_named : (ls : List Reading) (ending : Ending) (first : First) → length ls < 2 ^ 63 → IsFirst (length ls) first → IsOutcome (outcome ls ending first)
outcome_named ls ending AllGood low f = ended_named (last_of (records ls)) ending (length ls + 1) (omega arith)
outcome_named ls ending (At before l fault) low f = (omega (arith, f.2), f.3)

events_few : (ls : List Reading) (ending : Ending) → AllByRecursion IsReading ls → length ls < 2 ^ 63 → AreFew IsPart (length ls + 3) (events ls ending)
unfolding events
events_few ls ending h low =
    let first = first_from [] ls in let found = first_found (length ls) [] ls tt h (omega arith) in
    let last : AreFew IsPart 1 (part.Ended (outcome ls ending first) ∷ []) = (omega arith, (outcome_named ls ending first low found, tt)) in
    let own = events_of_few (length ls) (taken ls first) (taken_few ls first h found) in
    let all = few_append IsPart (length ls + 2) 1 (events_of (taken ls first)) (part.Ended (outcome ls ending first) ∷ []) own last in
    (omega (arith, all.0), all.1)

-- a file that a text has
pub record IsFile (f : File) : Type 0 where
  pub opening : IfSome IsOpening f.opening
  pub blocks : AllByRecursion IsBlock f.blocks
  pub few : length f.blocks ≤ 10 ^ 11
  pub outcome : IfSome IsOutcome f.outcome

-- the openings, the blocks and the outcomes among events
record AreSorted (es : List Placed) (n : ℕ) : Type 0 where
  openings : AllByRecursion IsOpening (filter_map opening_in es)
  blocks : AreFew IsBlock n (filter_map block_in es)
  outcomes : AllByRecursion IsOutcome (filter_map outcome_in es)

sorted : (k : ℕ) (es : List EventPart) → AllByRecursion IsPart es → AreSorted (placed k es) (length es)
sorted k [] h = record { openings = tt; blocks = (omega arith, tt); outcomes = tt }
sorted k (e ∷ es) h = add e h.0 (sorted (k + 1) es h.1)
  where
    add : (e : EventPart) → IsPart e → AreSorted (placed (k + 1) es) (length es) → AreSorted (placed k (e ∷ es)) (suc (length es))
    add (part.Opened o) p s = record { openings = (p, s.openings); blocks = (omega (arith, s.blocks.0), s.blocks.1); outcomes = s.outcomes }
    add (part.Block b) p s = record { openings = s.openings; blocks = (omega (arith, s.blocks.0), (p, s.blocks.1)); outcomes = s.outcomes }
    add (part.Ended o) p s = record { openings = s.openings; blocks = (omega (arith, s.blocks.0), s.blocks.1); outcomes = (p, s.outcomes) }

first_of : {X : Type 0} (P : X → Type 0) (xs : List X) → AllByRecursion P xs → IfSome P (first xs)
first_of P [] h = tt
first_of P (x ∷ xs) h = h.0

pub file_of_text : (layout : LayoutTable) (text : FileText) → length text.bytes ≤ 2 ^ 36 → IsFile (file_of (events_of_text layout text))
file_of_text layout text few =
    let lines_ = lines text.bytes text.ending in let ls = readings layout text.bytes text.ending in
    let size : length ls ≤ length text.bytes + 1 = omega (arith, lines_few text.bytes text.ending, length-map lines_ (reading layout)) in
    let lacking = among (λ l. lacks 10 l ≡ true) text.ending (pieces text.bytes) (pieces_lack 10 (without_mark text.bytes)) in
    let all = events_few ls text.ending (each_map IsReading (reading layout) lines_ (each_weaker _ _ (reading_spelled layout) lines_ lacking)) (omega arith) in
    let own = sorted 0 (events ls text.ending) all.1 in
    record {
      opening = first_of IsOpening (filter_map opening_in (events_of_text layout text)) own.openings;
      blocks = own.blocks.1;
      few = omega (arith, own.blocks.0, all.0);
      outcome = first_of IsOutcome (filter_map outcome_in (events_of_text layout text)) own.outcomes;
    }
