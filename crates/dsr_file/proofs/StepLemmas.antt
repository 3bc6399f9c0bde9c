-- One more record: the stage changes as the records do, and gives their next event.
use Rattle.dsr_file.proofs.Common.{◌≡◌, ◌≢◌, ℕ, ◌+◌, ◌<◌, ◌≤◌, ◌∙◌, sym, ap, refl, Bool, true, false, ◌||◌, eqb, leb, List, [], ◌∷◌, ◌++◌, length, map, drop, Option, None, Some, arith, append_assoc, add-zero, length-append, if◌then◌else◌, option_to_list, option_map, nat_tests, length-map, map-append, append-nil, list_all-append, list_any-append, onto_first, filter_map, list_any, list_all, bytes_eq, id_of_record, kind_of_record, or_else, Kind, Record, BlockParts, FileFault, OpeningParts, Stage, Start, Front, Open, parts, opens, but_last, closed, block_limit, has_id, summaries, works, usages, works_then_usages, is_usage, block_of, opening_of, opened, events_of, column, place, member_fault, early_fault, column_at, block_length, stage_fault, given_by, stage_after, records_of, IsFree, IsOpen, KeepsStage, IsRecord, block_count, subst}
use Rattle.std.proofs.lemmas.List.{nil_from_length}
use Rattle.std.proofs.lemmas.List.Elements.{filter_map-append}
use Rattle.dsr_events.specs.declared.kinds.Kind.TheVariants as kinds
use Rattle.dsr_events.specs.declared.record.Record.TheVariants as the
use Rattle.dsr_events.specs.declared.record.Summary as summary
use Rattle.dsr_events.specs.meaning.Works.{WorkParts}
use Rattle.dsr_events.specs.declared.record.Usage as usage
use Rattle.dsr_events.specs.declared.record.Head as head
use Rattle.dsr_events.specs.declared.record.Resource as resource
use Rattle.dsr_events.specs.declared.event.EventPart.TheVariants as tell
use Rattle.dsr_file.specs.declared.stage.Before.TheVariants as columns
use Rattle.dsr_file.proofs.StageLemmas.{fault_agrees, summaries_map}
use Rattle.dsr_file.proofs.PartLemmas.{parts_open, parts_stay, but_last_push, last_of_push, closed_stay, closed_open}

-- how a record changes what a stage represents
pub record Steps (stage : Stage) (rs : List Record) (r : Record) : Type 0 where
  pub keeps : KeepsStage (stage_after stage r) (rs ++ r ∷ [])
  pub events : events_of (rs ++ r ∷ []) ≡ events_of rs ++ option_to_list (given_by stage r)
  pub blocks : length (closed (rs ++ r ∷ [])) ≡ length (closed rs) + block_count (given_by stage r)

or_else_first : (f g : Option FileFault) → or_else f g ≡ None → f ≡ None
or_else_first f g e = grind arith

or_else_second : (f g : Option FileFault) → or_else f g ≡ None → g ≡ None
or_else_second f g e = grind arith

-- a record of an open block without a fault has the block's identifier, and there is room for it
member_ok : (part_id i : List ℕ) (n : ℕ) → member_fault part_id n i ≡ None → (bytes_eq i part_id ≡ true) × (n < block_limit)
member_ok part_id i n e = grind (arith, nat_tests)

-- for a record without a fault there is room, and no summary has its identifier
pub fault_free : (stage : Stage) (r : Record) → stage_fault stage (kind_of_record r) (id_of_record r) ≡ None → IsFree stage r
fault_free stage r e = grind (arith, nat_tests)

-- the columns of an open block
unused : (b : Bool) (k : Kind) → place columns.Used k ≢ None → place (if b then columns.Open else columns.Used) k ≡ None → b ≡ true
unused b k n e = grind arith

used : (b : Bool) (k : Kind) → place columns.Open k ≢ None → place (if b then columns.Open else columns.Used) k ≡ None → b ≡ false
used b k n e = grind arith

neither : (b : Bool) (k : Kind) → place columns.Open k ≢ None → place columns.Used k ≢ None → place (if b then columns.Open else columns.Used) k ≡ None → ⊥
neither b k m n e = grind arith

no_opens : (ss : List summary.Summary) → list_any opens (map the.Summary ss) ≡ false
no_opens [] = refl
no_opens (s ∷ ss) = no_opens ss

one_part : (ss : List summary.Summary) → parts (map the.Summary ss) ≡ map the.Summary ss ∷ []
one_part [] = refl
one_part (s ∷ ss) = ap (onto_first (the.Summary s)) (one_part ss)

-- HEAD and summaries alone have no events
pub front_events : (h : head.Head) (ss : List summary.Summary) → events_of (the.Head h ∷ map the.Summary ss) ≡ []
unfolding events_of
front_events h ss = rw (no_opens ss, one_part ss) refl

-- a summary after a head and summaries is appended to the summaries
summary_events : (o : OpeningParts) (rs : List Record) (s : summary.Summary) → rs ≡ the.Head o.head ∷ map the.Summary o.summaries
    → rs ++ the.Summary s ∷ [] ≡ the.Head o.head ∷ map the.Summary (o.summaries ++ s ∷ [])
summary_events o rs s k = ap (λ xs. xs ++ the.Summary s ∷ []) k ∙ ap (λ xs. the.Head o.head ∷ xs) (sym (map-append the.Summary o.summaries (s ∷ [])))

-- the parts of HEAD and summaries
front_parts : (o : OpeningParts) (rs : List Record) → rs ≡ the.Head o.head ∷ map the.Summary o.summaries → parts rs ≡ rs ∷ []
front_parts o rs k = rw (k, one_part o.summaries) refl

pub summaries-append : (rs ss : List Record) → summaries (rs ++ ss) ≡ summaries rs ++ summaries ss
summaries-append [] ss = refl
summaries-append (r ∷ rs) ss = more r rs ss (summaries-append rs ss)
  where
    more : (r : Record) (rs ss : List Record) → summaries (rs ++ ss) ≡ summaries rs ++ summaries ss → summaries (r ∷ (rs ++ ss)) ≡ summaries (r ∷ rs) ++ summaries ss
    more r rs ss e = grind arith

summaries_same : (rs : List Record) (r : Record) → summaries (r ∷ []) ≡ [] → summaries (rs ++ r ∷ []) ≡ summaries rs
summaries_same rs r none = summaries-append rs (r ∷ []) ∙ ap (λ ss. summaries rs ++ ss) none ∙ append-nil (summaries rs)

pub opened_known : (rs : List Record) (h : head.Head) (rest : List Record) → rs ≡ the.Head h ∷ rest → list_any opens rs ≡ true
    → opened rs ≡ tell.Opened (record { head = h; summaries = summaries rest }) ∷ []
opened_known rs h rest bs any = rw any (ap (λ xs. option_to_list (option_map tell.Opened (opening_of xs))) bs)

any_push : (rs : List Record) (r : Record) → list_any opens rs ≡ true → list_any opens (rs ++ r ∷ []) ≡ true
any_push rs r h = rw (list_any-append, h) refl

any_last : (rs : List Record) (r : Record) → opens r ≡ true → list_any opens (rs ++ r ∷ []) ≡ true
any_last [] r h = rw h refl
any_last (x ∷ rs) r h = elim (opens x) as (λ b. (b || list_any opens (rs ++ r ∷ [])) ≡ true) [ true ↦ refl | false ↦ any_last rs r h ]

-- the opening stays as it is
opened_stay : (rs : List Record) (r : Record) (h : head.Head) (rest : List Record) → summaries (r ∷ []) ≡ [] → rs ≡ the.Head h ∷ rest → list_any opens rs ≡ true
    → opened (rs ++ r ∷ []) ≡ opened rs
opened_stay rs r h rest none bs any =
    opened_known (rs ++ r ∷ []) h (rest ++ r ∷ []) (ap (λ xs. xs ++ r ∷ []) bs) (any_push rs r any)
    ∙ ap (λ ss. tell.Opened (record { head = h; summaries = ss }) ∷ []) (summaries_same rest r none)
    ∙ sym (opened_known rs h rest bs any)

works_then : (ws : List WorkParts) (us : List usage.Usage) → eqb (length us) 0 ≡ false → works_then_usages (map the.Work ws ++ map the.Usage us) ≡ true
works_then [] [] e = cc
works_then [] (u ∷ us) e = all_usages us
  where
    all_usages : (us : List usage.Usage) → list_all is_usage (map the.Usage us) ≡ true
    all_usages [] = refl
    all_usages (u ∷ us) = all_usages us
works_then (w ∷ ws) us e = works_then ws us e

parts_kept : (ws : List WorkParts) (us : List usage.Usage) → (works (map the.Work ws ++ map the.Usage us) ≡ ws) × (usages (map the.Work ws ++ map the.Usage us) ≡ us)
parts_kept (w ∷ ws) us = let rest = parts_kept ws us in (ap (λ xs. w ∷ xs) rest.0, rest.1)
parts_kept [] [] = (refl, refl)
parts_kept [] (u ∷ us) = let rest = parts_kept [] us in (rest.0, ap (λ xs. u ∷ xs) rest.1)

same_block : (b : BlockParts) (i : List ℕ) (ws : List WorkParts) (us : List usage.Usage) → i ≡ b.id → ws ≡ b.works → us ≡ b.usages
    → Some (record b { id = i; works = ws; usages = us }) ≡ Some b
same_block b i ws us p q r = rw (p, q, r) refl

few : (b : BlockParts) → block_length b ≤ block_limit → leb (length (map the.Work b.works ++ map the.Usage b.usages) + 1) block_limit ≡ true
few b h = let e : length (map the.Work b.works ++ map the.Usage b.usages) ≡ length b.works + length b.usages = simp (length-append, length-map) in
    rw e (grind (arith, nat_tests))

-- an open block with a usage is complete
block_complete : (b : BlockParts) (rs : List Record) → IsOpen b rs → eqb (length b.usages) 0 ≡ false → block_of (records_of b) ≡ Some b
block_complete b rs k u =
    let same = parts_kept b.works b.usages in
    rw (works_then b.works b.usages u, k.ids, few b k.short) (same_block b _ _ _ (sym k.id) same.0 same.1)

blocks_push : (ps : List (List Record)) (part : List Record) (b : BlockParts) → block_of part ≡ Some b
    → map tell.Block (filter_map block_of (ps ++ part ∷ [])) ≡ map tell.Block (filter_map block_of ps) ++ tell.Block b ∷ []
blocks_push ps part b h =
    ap (map tell.Block) (filter_map-append block_of ps (part ∷ []))
    ∙ map-append tell.Block (filter_map block_of ps) (filter_map block_of (part ∷ []))
    ∙ rw h refl

-- a record that opens a part after HEAD and summaries
front_steps : (o : OpeningParts) (rs : List Record) (r : Record) → opens r ≡ true → summaries (r ∷ []) ≡ [] → rs ≡ the.Head o.head ∷ map the.Summary o.summaries
    → KeepsStage (stage_after (Front o) r) (rs ++ r ∷ []) → Steps (Front o) rs r
unfolding events_of
front_steps o rs r op none k keeps =
    let none_before : closed (rs ++ r ∷ []) ≡ [] = closed_open rs r op ∙ ap (drop 1) (front_parts o rs k) in
    record {
      keeps = keeps;
      events = rw op (ap (λ ps. opened (rs ++ r ∷ []) ++ map tell.Block (filter_map block_of ps)) none_before
          ∙ append-nil _
          ∙ opened_known (rs ++ r ∷ []) o.head (map the.Summary o.summaries ++ r ∷ []) (ap (λ xs. xs ++ r ∷ []) k) (any_last rs r op)
          ∙ ap (λ ss. tell.Opened (record { head = o.head; summaries = ss }) ∷ []) (summaries_same (map the.Summary o.summaries) r none ∙ summaries_map o.summaries)
          ∙ ap (λ es. es ++ tell.Opened o ∷ []) (sym (ap events_of k ∙ front_events o.head o.summaries)));
      blocks = rw op (ap length none_before ∙ sym (add-zero _ ∙ ap (λ ps. length (drop 1 (but_last ps))) (front_parts o rs k)));
    }

-- a record that closes a block
open_steps : (b : BlockParts) (rs : List Record) (r : Record) → opens r ≡ true → summaries (r ∷ []) ≡ [] → IsOpen b rs → eqb (length b.usages) 0 ≡ false
    → KeepsStage (stage_after (Open b) r) (rs ++ r ∷ []) → Steps (Open b) rs r
unfolding events_of
open_steps b rs r op none k u keeps =
    let before : closed rs ≡ k.before = ap (λ ps. drop 1 (but_last ps)) k.parts ∙ ap (drop 1) (but_last_push (k.first ∷ k.before) (records_of b)) in
    let after : closed (rs ++ r ∷ []) ≡ k.before ++ records_of b ∷ [] = closed_open rs r op ∙ ap (drop 1) k.parts in
    record {
      keeps = keeps;
      events = rw op (ap (λ ps. opened (rs ++ r ∷ []) ++ map tell.Block (filter_map block_of ps)) after
          ∙ ap (λ es. opened (rs ++ r ∷ []) ++ es) (blocks_push k.before (records_of b) b (block_complete b rs k u))
          ∙ ap (λ es. es ++ (map tell.Block (filter_map block_of k.before) ++ tell.Block b ∷ [])) (opened_stay rs r k.head k.rest none k.begins k.opened)
          ∙ sym (append_assoc (opened rs) (map tell.Block (filter_map block_of k.before)) (tell.Block b ∷ []))
          ∙ ap (λ ps. (opened rs ++ map tell.Block (filter_map block_of ps)) ++ tell.Block b ∷ []) (sym before));
      blocks = rw op (ap length after ∙ length-append k.before (records_of b ∷ []) ∙ ap (λ ps. length ps + 1) (sym before));
    }

abbrev fresh : resource.Resource → BlockParts
fresh r = record { id = r.block_id; resource = r; works = []; usages = [] }

-- a new part
new_part : (r : resource.Resource) (rs : List Record) (h : head.Head) (rest first : List Record) (before : List (List Record)) → rs ≡ the.Head h ∷ rest
    → parts rs ≡ first ∷ before → IsOpen (fresh r) (rs ++ the.Resource r ∷ [])
new_part r rs h rest first before bs ps = record {
  head = h;
  rest = rest ++ the.Resource r ∷ [];
  first = first;
  before = before;
  begins = ap (λ xs. xs ++ the.Resource r ∷ []) bs;
  opened = any_last rs (the.Resource r) refl;
  column = ap column (last_of_push rs (the.Resource r));
  parts = parts_open rs (the.Resource r) refl ∙ ap (λ qs. qs ++ (the.Resource r ∷ []) ∷ []) ps;
  id = refl;
  ids = refl;
  short = omega arith;
}

-- the open block with one more record
member_steps : (b c : BlockParts) (r : Record) (rs : List Record) → opens r ≡ false → summaries (r ∷ []) ≡ [] → stage_after (Open b) r ≡ Open c → IsOpen b rs
    → c.id ≡ b.id → c.resource ≡ b.resource → records_of c ≡ records_of b ++ r ∷ [] → has_id b.resource.block_id r ≡ true → column (Some r) ≡ column_at (Open c)
    → block_length c ≤ block_limit → Steps (Open b) rs r
unfolding events_of
member_steps b c r rs op none after k i res e h col short = record {
  keeps = subst (λ s. KeepsStage s (rs ++ r ∷ [])) (sym after) (record {
    head = k.head;
    rest = k.rest ++ r ∷ [];
    first = k.first;
    before = k.before;
    begins = ap (λ xs. xs ++ r ∷ []) k.begins;
    opened = any_push rs r k.opened;
    column = ap column (last_of_push rs r) ∙ col;
    parts = parts_stay rs r (k.first ∷ k.before) (records_of b) op k.parts ∙ ap (λ p. k.first ∷ (k.before ++ p ∷ [])) (sym e);
    id = i ∙ k.id ∙ ap (λ x. x.block_id) (sym res);
    ids =
        ap (λ x. list_all (has_id x.block_id) (map the.Work c.works ++ map the.Usage c.usages)) res
        ∙ ap (λ xs. list_all (has_id b.resource.block_id) (drop 1 xs)) e
        ∙ list_all-append (has_id b.resource.block_id) (map the.Work b.works ++ map the.Usage b.usages) (r ∷ [])
        ∙ rw (k.ids, h) refl;
    short = short;
  });
  events = rw op (ap (λ ps. opened (rs ++ r ∷ []) ++ map tell.Block (filter_map block_of ps)) (closed_stay rs r op)
      ∙ ap (λ es. es ++ map tell.Block (filter_map block_of (closed rs))) (opened_stay rs r k.head k.rest none k.begins k.opened)
      ∙ sym (append-nil (opened rs ++ map tell.Block (filter_map block_of (closed rs)))));
  blocks = rw op (ap length (closed_stay rs r op) ∙ sym (add-zero _));
}

work_records : (ws : List WorkParts) (us : List usage.Usage) (w : WorkParts) → eqb (length us) 0 ≡ true
    → map the.Work (ws ++ w ∷ []) ++ map the.Usage us ≡ (map the.Work ws ++ map the.Usage us) ++ the.Work w ∷ []
work_records ws us w e = let none : length us ≡ 0 = grind (arith, nat_tests) in
    rw (nil_from_length us none) (append-nil _ ∙ map-append the.Work ws (w ∷ []) ∙ ap (λ xs. xs ++ the.Work w ∷ []) (sym (append-nil (map the.Work ws))))

usage_records : (ws : List WorkParts) (us : List usage.Usage) (u : usage.Usage)
    → map the.Work ws ++ map the.Usage (us ++ u ∷ []) ≡ (map the.Work ws ++ map the.Usage us) ++ the.Usage u ∷ []
usage_records ws us u =
    ap (λ xs. map the.Work ws ++ xs) (map-append the.Usage us (u ∷ [])) ∙ sym (append_assoc (map the.Work ws) (map the.Usage us) (the.Usage u ∷ []))

pushed_some : (us : List usage.Usage) (u : usage.Usage) → eqb (length (us ++ u ∷ [])) 0 ≡ false
pushed_some us u = let e : length (us ++ u ∷ []) ≡ length us + 1 = simp length-append in rw e (grind (arith, nat_tests))

-- a record in its place
step_placed : (stage : Stage) (rs : List Record) (r : Record) → IsRecord r → KeepsStage stage rs → stage_fault stage (kind_of_record r) (id_of_record r) ≡ None
    → Steps stage rs r
unfolding events_of
step_placed Start rs (the.Head h) i k e = subst (λ xs. Steps Start xs (the.Head h)) (sym k) (record { keeps = refl; events = refl; blocks = refl })
step_placed (Front o) rs (the.Summary s) i k e = record {
  keeps = summary_events o rs s k;
  blocks = ap length (closed_stay rs (the.Summary s) refl) ∙ sym (add-zero _);
  events =
      ap events_of (summary_events o rs s k) ∙ front_events o.head (o.summaries ++ s ∷ [])
      ∙ sym (append-nil (events_of rs) ∙ ap events_of k ∙ front_events o.head o.summaries);
}
step_placed (Front o) rs (the.Resource r) i k e =
    front_steps o rs (the.Resource r) refl refl k (new_part r rs o.head (map the.Summary o.summaries) rs [] k (front_parts o rs k))
step_placed (Front o) rs (the.Foot f) i k e = front_steps o rs (the.Foot f) refl refl k (ap column (last_of_push rs (the.Foot f)))
step_placed (Open b) rs (the.Resource r) i k e = open_steps b rs (the.Resource r) refl refl k (used _ kinds.Resource (λ x. cc) (or_else_first _ _ e))
    (new_part r rs k.head k.rest k.first (k.before ++ records_of b ∷ []) k.begins k.parts)
step_placed (Open b) rs (the.Foot f) i k e =
    open_steps b rs (the.Foot f) refl refl k (used _ kinds.Foot (λ x. cc) (or_else_first _ _ e)) (ap column (last_of_push rs (the.Foot f)))
step_placed (Open b) rs (the.Work w) i k e =
    let un = unused _ kinds.Work (λ x. cc) (or_else_first _ _ e) in
    let ok = member_ok b.id w.block_id _ (or_else_second (place (column_at (Open b)) kinds.Work) _ e) in
    member_steps b (record b { works = b.works ++ w ∷ [] }) (the.Work w) rs refl refl refl k refl refl
    (ap (λ xs. the.Resource b.resource ∷ xs) (work_records b.works b.usages w un)) (rw (← k.id) ok.0) (rw un refl)
    (let h : block_length b < block_limit = ok.1 in simp length-append (omega arith))
step_placed (Open b) rs (the.Usage u) i k e =
    let ok = member_ok b.id u.block_id _ (or_else_second (place (column_at (Open b)) kinds.Usage) _ e) in
    member_steps b (record b { usages = b.usages ++ u ∷ [] }) (the.Usage u) rs refl refl refl k refl refl
    (ap (λ xs. the.Resource b.resource ∷ xs) (usage_records b.works b.usages u)) (rw (← k.id) ok.0) (rw pushed_some refl)
    (let h : block_length b < block_limit = ok.1 in simp length-append (omega arith))
step_placed (Open b) rs (the.Head h) i k e = absurd (neither _ kinds.Head (λ x. cc) (λ x. cc) (or_else_first _ _ e))
step_placed (Open b) rs (the.Summary s) i k e = absurd (neither _ kinds.Summary (λ x. cc) (λ x. cc) (or_else_first _ _ e))
step_placed stage rs the.Skipped i k e = absurd i
step_placed _ rs _ i k e = cc

-- a record with no early fault
pub step_record : (stage : Stage) (rs : List Record) (r : Record) → IsRecord r → KeepsStage stage rs → early_fault rs r ≡ None → Steps stage rs r
step_record stage rs r i k e = step_placed stage rs r i k (fault_agrees stage rs r k ∙ e)
