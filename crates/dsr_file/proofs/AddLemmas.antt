-- Adding a record to a grammar.
use Rattle.dsr_file.proofs.Common.{◌≡◌, ◌+◌, ◌∙◌, sym, ap, subst, Bool, true, false, List, [], ◌∷◌, ◌++◌, length, count_by, Option, None, Some, add-zero, length-append, cond, option_and_then, if◌then◌else◌, option_to_list, Record, FileFault, EventPart, Grammar, Reading, Holds, kept, records, is_skipped_line, is_skipped_record, closed, summaries, events_of, fault_of, early_fault, count_fault, or_else, counts_fault, Stage, KeepsStage, IsMember, stage_after, given_by, foot_in, summary_count, block_count, Keeps, kept_count_fault, IsRecord, arith, zero-add}
use Rattle.std.proofs.lemmas.List.Sums.{sum_by-append}
use Rattle.dsr_file.proofs.StepLemmas.{Steps, step_record, summaries-append}
use Rattle.dsr_file.proofs.LineLemmas.{records-push, first_good}

-- how the code changes the numbers
pub record Adds (old new : Grammar) (item : Record) (part : Option EventPart) : Type 0 where
  pub stage : new.stage ≡ stage_after old.stage item
  pub given : part ≡ given_by old.stage item
  pub lines : new.lines ≡ old.lines + 1
  pub records : new.records ≡ old.records + 1
  pub skipped_lines : new.skipped_lines ≡ old.skipped_lines
  pub skipped_records : new.skipped_records ≡ old.skipped_records
  pub summaries : new.summaries ≡ old.summaries + summary_count item
  pub blocks : new.blocks ≡ old.blocks + block_count part

summary_added : (item : Record) → length (summaries (item ∷ [])) ≡ summary_count item
summary_added item = grind arith

-- a record that is not of a skipped type is kept
kept_record : (item : Record) → IsRecord item → kept (Holds item) ≡ item ∷ []
kept_record item i = grind arith

unskipped : (item : Record) → IsRecord item → is_skipped_record (Holds item) ≡ false
unskipped item i = grind arith

-- the records after a line that holds the item
pub with_item : (ls : List Reading) (item : Record) → IsRecord item → records (ls ++ Holds item ∷ []) ≡ records ls ++ item ∷ []
with_item ls item i = records-push ls (Holds item) ∙ ap (λ rs. records ls ++ rs) (kept_record item i)

pub count_by_push : {X : Type 0} (p : X → Bool) (xs : List X) (x : X) → count_by p (xs ++ x ∷ []) ≡ count_by p xs + cond (p x) 1 0
count_by_push p xs x = sum_by-append (λ y. cond (p y) 1 0) xs (x ∷ []) ∙ ap (λ n. count_by p xs + n) (zero-add _)

-- a fault of the counts is one of the three
count_faults : (g : Grammar) (item : Record) (f : FileFault) → option_and_then (kept_count_fault g) (foot_in item) ≡ Some f → counts_fault f ≡ true
count_faults g item f e = grind arith

-- a work or a usage closes nothing, and no count but that of the records changes by it
pub record Plain (stage : Stage) (item : Record) : Type 0 where
  pub given : None ≡ given_by stage item
  pub real : IsRecord item
  pub summaries : summary_count item ≡ 0
  pub foot : foot_in item ≡ None

pub plain_member : (stage : Stage) (item : Record) → IsMember item → Plain stage item
plain_member stage item m = grind arith

module _ (old new : Grammar) (ls : List Reading) (item : Record) (part : Option EventPart) (k : Keeps old ls) (e : early_fault (records ls) item ≡ None)
    (i : IsRecord item) (a : Adds old new item part) where
  step : Steps old.stage (records ls) item
  step = step_record old.stage (records ls) item i k.stage_is e

  blocks_after : new.blocks ≡ length (closed (records ls ++ item ∷ []))
  blocks_after = a.blocks ∙ ap (λ p. old.blocks + block_count p) a.given ∙ ap (λ n. n + block_count (given_by old.stage item)) k.blocks_are ∙ sym (step.blocks)

  summaries_after : new.summaries ≡ length (summaries (records ls ++ item ∷ []))
  summaries_after =
      a.summaries ∙ ap (λ n. n + summary_count item) k.summaries_are ∙ ap (λ n. length (summaries (records ls)) + n) (sym (summary_added item))
      ∙ sym (ap length (summaries-append (records ls) (item ∷ [])) ∙ length-append (summaries (records ls)) (summaries (item ∷ [])))

  records_after : new.records ≡ length (records ls) + 1
  records_after = a.records ∙ ap (λ n. n + 1) k.records_are

  counts_agree : count_fault (records ls) (count_by is_skipped_record ls) (count_by is_skipped_line ls) item
      ≡ option_and_then (kept_count_fault new) (foot_in item)
  counts_agree =
      let s : new.summaries ≡ length (summaries (records ls)) + summary_count item = a.summaries ∙ ap (λ n. n + summary_count item) k.summaries_are in
      let r = records_after in
      let b = blocks_after in
      grind arith

  fault_is : fault_of ls (Holds item) ≡ option_and_then (kept_count_fault new) (foot_in item)
  unfolding fault_of
  fault_is = ap (λ o. or_else o (count_fault (records ls) (count_by is_skipped_record ls) (count_by is_skipped_line ls) item)) e ∙ counts_agree

  events_with : events_of (records (ls ++ Holds item ∷ [])) ≡ events_of (records ls) ++ option_to_list part
  events_with = ap events_of (with_item ls item i) ∙ step.events ∙ ap (λ p. events_of (records ls) ++ option_to_list p) (sym a.given)

  pub added_good : option_and_then (kept_count_fault new) (foot_in item) ≡ None
      → Keeps new (ls ++ Holds item ∷ []) × (fault_of ls (Holds item) ≡ None)
      × (events_of (records (ls ++ Holds item ∷ [])) ≡ events_of (records ls) ++ option_to_list part)
  added_good n = (
    record {
      good = first_good ls (Holds item) k.good (fault_is ∙ n);
      stage_is =
          subst (λ rs. KeepsStage new.stage rs) (sym (with_item ls item i)) (subst (λ st. KeepsStage st (records ls ++ item ∷ [])) (sym a.stage) step.keeps);
      lines_are = a.lines ∙ ap (λ n. n + 1) k.lines_are ∙ sym (length-append ls (Holds item ∷ []));
      skipped_are = a.skipped_lines ∙ k.skipped_are ∙ sym (count_by_push is_skipped_line ls (Holds item) ∙ add-zero _);
      types_are = a.skipped_records ∙ k.types_are ∙ sym (count_by_push is_skipped_record ls (Holds item) ∙ rw (unskipped item i) (add-zero _));
      records_are = records_after ∙ sym (ap length (with_item ls item i) ∙ length-append (records ls) (item ∷ []));
      summaries_are = summaries_after ∙ ap (λ rs. length (summaries rs)) (sym (with_item ls item i));
      blocks_are = blocks_after ∙ ap (λ rs. length (closed rs)) (sym (with_item ls item i));
    },
    fault_is ∙ n,
    events_with,
  )

  pub added_faulty : (f : FileFault) → option_and_then (kept_count_fault new) (foot_in item) ≡ Some f
      → (fault_of ls (Holds item) ≡ Some f) × (events_of (records (if counts_fault f then ls ++ Holds item ∷ [] else ls))
      ≡ events_of (records ls) ++ option_to_list part)
  added_faulty f n = (fault_is ∙ n, rw (count_faults new item f n) events_with)
