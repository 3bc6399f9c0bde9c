-- The events of bytes, and of texts that begin with them.
use Rattle.dsr_file.proofs.Common.{◌≡◌, ℕ, ◌+◌, ◌<◌, ◌≤◌, ◌⊎◌, inl, inr, ◌∙◌, sym, ap, refl, subst, Bool, true, false, ◌||◌, eqb, List, [], ◌∷◌, ◌++◌, length, map, Option, None, Some, append_assoc, length-append, arith, if◌then◌else◌, option_to_list, option_map, slice_split, list_any, filter_map, append-nil, map-append, list_any-append, nat_tests, cases_lt, eqb-true, IsPrefix, is_long, pieces, without_mark, is_line_feed, line_limit, Record, BlockParts, LayoutTable, or_else, FileFault, Ending, EventPart, Stage, Start, OpeningParts, is_ended, has_ended, lines_among, Reading, Holds, SkippedLine, reading, kept, records, events_of, opened, opening_of, opens, closed, block_of, fault_of, early_fault, First, AllGood, At, first_if, first_from, counts_fault, taken, outcome, ended_so_far, events, events_so_far, placed, readings, so_far, text_events, KeepsStage, stage_after, IsRecord, IsSettled, byte_order_mark, nat_eq, starts_with, Closed, Front, Open, part_given, summaries}
use Rattle.dsr_events.specs.declared.fault.FileFault.TheVariants as faults
use Rattle.dsr_events.specs.declared.fault.Ending.TheVariants as endings
use Rattle.dsr_events.specs.declared.event.EventPart.TheVariants as tell
use Rattle.dsr_file.specs.meaning.Readings.{Faulty}
use Rattle.dsr_file.proofs.LineLemmas.{records-same, first_good, first_at}
use Rattle.dsr_file.proofs.AddLemmas.{with_item}
use Rattle.dsr_file.proofs.StepLemmas.{step_record, front_events, opened_known}
use Rattle.dsr_file.proofs.TestLemmas.{early_not_count}
use Rattle.dsr_file.proofs.ReaderLemmas.{placed-append, long_last, readings_short, readings_long}
use Rattle.dsr_file.proofs.PartLemmas.{join, join_last, snoc}
use Rattle.dsr_file.proofs.CutLemmas.{split_some, split_join}

-- no fault, or a fault of the counts
abbrev pub counted : Option FileFault → Bool
counted None = true
counted (Some f) = counts_fault f

pub none_early : (rs : List Record) (r : Record) (c o : Option FileFault) → or_else (early_fault rs r) c ≡ o → counted o ≡ true → early_fault rs r ≡ None
none_early rs r c o e t = by_fault (early_fault rs r) (early_not_count rs r) e
  where
    by_fault : (x : Option FileFault) → ((f : FileFault) → x ≡ Some f → counts_fault f ≡ false) → or_else x c ≡ o → x ≡ None
    by_fault x n e = grind arith

-- nothing, or an opening and blocks
abbrev pub HasShape : List EventPart → Type 0
HasShape es = (es ≡ []) ⊎ ((o : OpeningParts) × (bs : List BlockParts) × (es ≡ tell.Opened o ∷ map tell.Block bs))

shape_more : (stage : Stage) (rs : List Record) → KeepsStage stage rs → HasShape (events_of rs)
    → HasShape (events_of rs ++ option_to_list (part_given stage))
unfolding events_of
shape_more Start rs k s = subst HasShape (sym (append-nil (events_of rs))) s
shape_more Closed rs k s = subst HasShape (sym (append-nil (events_of rs))) s
shape_more (Front o) rs k s = inr (o, [], ap (λ es. es ++ tell.Opened o ∷ []) (ap events_of k ∙ front_events o.head o.summaries))
shape_more (Open b) rs k s =
    let bs = filter_map block_of (closed rs) in
    let o : OpeningParts = record { head = k.head; summaries = summaries k.rest } in
    inr (
      o,
      bs ++ b ∷ [],
      ap (λ es. (es ++ map tell.Block bs) ++ tell.Block b ∷ []) (opened_known rs k.head k.rest k.begins k.opened)
          ∙ ap (λ es. tell.Opened o ∷ es) (sym (map-append tell.Block bs (b ∷ []))),
    )

-- the stage after good lines, and the shape of their events
record After (rs : List Record) : Type 0 where
  stage : Stage
  keeps : KeepsStage stage rs
  shape : HasShape (events_of rs)

-- the events of these records begin with those of the lines
abbrev GoesOn : List Reading → List Record → Type 0
GoesOn ls rs = (more : List EventPart) × (events_of rs ≡ events_of (records ls) ++ more)

next_item : (ls : List Reading) (r : Record) → counted (fault_of ls (Holds r)) ≡ true → After (records ls) → IsRecord r
    → After (records ls ++ r ∷ []) × GoesOn ls (records ls ++ r ∷ [])
unfolding fault_of
next_item ls r c s i =
    let step = step_record s.stage (records ls) r i s.keeps (none_early (records ls) r _ _ refl c) in (
      record {
        stage = stage_after s.stage r;
        keeps = step.keeps;
        shape = subst HasShape (sym step.events) (elim (opens r) as (λ b. HasShape (events_of (records ls) ++ option_to_list (if b then part_given s.stage else None)))
            [ true ↦ shape_more s.stage (records ls) s.keeps s.shape | false ↦ subst HasShape (sym (append-nil (events_of (records ls)))) s.shape ]);
      },
      (_, step.events),
    )

left_or_real : (r : Record) → (kept (Holds r) ≡ []) ⊎ IsRecord r
left_or_real r = grind arith

-- one more line that is good, or has a fault of the counts
next : (ls : List Reading) (l : Reading) → counted (fault_of ls l) ≡ true → After (records ls) → After (records (ls ++ l ∷ [])) × GoesOn ls (records (ls ++ l ∷ []))
next ls l c s = by_kind l c (kind_of_line l)
  where
    kind_of_line : (l : Reading) → (kept l ≡ []) ⊎ ((r : Record) × (l ≡ Holds r) × IsRecord r)
    kind_of_line (Faulty f) = inl refl
    kind_of_line SkippedLine = inl refl
    kind_of_line (Holds r) = elim (left_or_real r) [ inl n ↦ inl n | inr i ↦ inr (r, refl, i) ]

    by_kind : (l : Reading) → counted (fault_of ls l) ≡ true → (kept l ≡ []) ⊎ ((r : Record) × (l ≡ Holds r) × IsRecord r)
        → After (records (ls ++ l ∷ [])) × GoesOn ls (records (ls ++ l ∷ []))
    by_kind l c (inl n) = subst (λ rs. After rs × GoesOn ls rs) (sym (records-same ls l n)) (s, ([], sym (append-nil (events_of (records ls)))))
    by_kind l c (inr (r, is, i)) = subst (λ l. After (records (ls ++ l ∷ [])) × GoesOn ls (records (ls ++ l ∷ []))) (sym is)
        (subst (λ rs. After rs × GoesOn ls rs) (sym (with_item ls r i)) (next_item ls r (rw is at c) s i))

-- the events of more lines begin with those of the first
taken_more : (ls ms : List Reading) → first_from [] ls ≡ AllGood → After (records ls)
    → GoesOn ls (taken (ls ++ ms) (first_from [] (ls ++ ms))) × HasShape (events_of (taken (ls ++ ms) (first_from [] (ls ++ ms))))
taken_more ls [] g s =
    subst (λ rs. GoesOn ls rs × HasShape (events_of rs)) (sym (ap (λ xs. taken xs (first_from [] xs)) (append-nil ls) ∙ ap (taken ls) g))
    (([], sym (append-nil (events_of (records ls)))), s.shape)
taken_more ls (m ∷ ms) g s =
    elim (fault_of ls m) as (λ o. fault_of ls m ≡ o → GoesOn ls (taken (ls ++ m ∷ ms) (first_from [] (ls ++ m ∷ ms)))
    × HasShape (events_of (taken (ls ++ m ∷ ms) (first_from [] (ls ++ m ∷ ms))))) [
      | None ↦ λ e.
          let one = next ls m (ap counted e) s in
          let rest = taken_more (ls ++ m ∷ []) ms (first_good ls m g e) one.0 in
          subst (λ xs. GoesOn ls (taken xs (first_from [] xs)) × HasShape (events_of (taken xs (first_from [] xs)))) (append_assoc ls (m ∷ []) ms) (
            (one.1.0 ++ rest.0.0, rest.0.1 ∙ ap (λ es. es ++ rest.0.0) one.1.1 ∙ append_assoc (events_of (records ls)) one.1.0 rest.0.0),
            rest.1,
          )
      | Some f ↦ λ e. subst (λ x. GoesOn ls (taken (ls ++ m ∷ ms) x) × HasShape (events_of (taken (ls ++ m ∷ ms) x))) (sym (first_at ls m f ms g e))
          (by_count f e (counts_fault f) refl)
    ] refl
  where
    by_count : (f : FileFault) → fault_of ls m ≡ Some f → (b : Bool) → counts_fault f ≡ b
        → GoesOn ls (records (if b then ls ++ m ∷ [] else ls)) × HasShape (events_of (records (if b then ls ++ m ∷ [] else ls)))
    by_count f e true t = let one = next ls m (ap counted e ∙ t) s in (one.1, one.0.shape)
    by_count f e false t = (([], sym (append-nil (events_of (records ls)))), s.shape)

nothing_after : After []
unfolding events_of
nothing_after = record { stage = Start; keeps = refl; shape = inl refl }

pub taken_shape : (ls : List Reading) → HasShape (events_of (taken ls (first_from [] ls)))
taken_shape ls = (taken_more [] ls refl nothing_after).1

-- good lines have a stage
after_good : (ls ms : List Reading) → first_from [] ls ≡ AllGood → first_from ls ms ≡ AllGood → After (records ls) → After (records (ls ++ ms))
after_good ls [] g h s = subst (λ xs. After (records xs)) (sym (append-nil ls)) s
after_good ls (m ∷ ms) g h s =
    elim (fault_of ls m) as (λ o. fault_of ls m ≡ o → first_if o ls m (first_from (ls ++ m ∷ []) ms) ≡ AllGood → After (records (ls ++ m ∷ ms))) [
      | None ↦ λ e h. subst (λ xs. After (records xs)) (append_assoc ls (m ∷ []) ms)
          (after_good (ls ++ m ∷ []) ms (first_good ls m g e) h (next ls m (ap counted e) s).0)
      | Some f ↦ λ e h. cc
    ] refl h

-- the first fault stays the first
fault_stays : (before ls ms : List Reading) (b : List Reading) (l : Reading) (f : FileFault) → first_from before ls ≡ At b l f
    → first_from before (ls ++ ms) ≡ At b l f
fault_stays before [] ms b l f e = cc
fault_stays before (m ∷ ls) ms b l f e =
    elim (fault_of before m) as (λ o. first_if o before m (first_from (before ++ m ∷ []) ls) ≡ At b l f
    → first_if o before m (first_from (before ++ m ∷ []) (ls ++ ms)) ≡ At b l f)
    [ None ↦ λ h. fault_stays (before ++ m ∷ []) ls ms b l f h | Some g ↦ λ h. h ] e

-- the events of lines, and of more lines, whatever comes last
begun : (ls ms : List Reading) (last : First → List EventPart) → ((b : List Reading) (l : Reading) (f : FileFault) → last (At b l f) ≡ ended_so_far (At b l f))
    → (more : List EventPart) × (events_of (taken (ls ++ ms) (first_from [] (ls ++ ms))) ++ last (first_from [] (ls ++ ms))
    ≡ (events_of (taken ls (first_from [] ls)) ++ ended_so_far (first_from [] ls)) ++ more)
begun ls ms last same = by_first (first_from [] ls) refl
  where
    by_first : (f : First) → first_from [] ls ≡ f → (more : List EventPart)
        × (events_of (taken (ls ++ ms) (first_from [] (ls ++ ms))) ++ last (first_from [] (ls ++ ms)) ≡ (events_of (taken ls f) ++ ended_so_far f) ++ more)
    by_first AllGood e =
        let on = (taken_more ls ms e (after_good [] ls refl e nothing_after)).0 in
        let end = last (first_from [] (ls ++ ms)) in (
          on.0 ++ end,
          ap (λ es. es ++ end) on.1 ∙ append_assoc (events_of (records ls)) on.0 end
              ∙ ap (λ es. es ++ (on.0 ++ end)) (sym (append-nil (events_of (records ls)))),
        )
    by_first (At b l f) e = (
      [],
      ap (λ x. events_of (taken (ls ++ ms) x) ++ last x) (fault_stays [] ls ms b l f e) ∙ ap (λ x. events_of (taken ls (At b l f)) ++ x) (same b l f)
          ∙ sym (append-nil _),
    )

pub lines_begin : (ls ms : List Reading) (ending : Ending) → (more : List EventPart) × (events (ls ++ ms) ending ≡ events_so_far ls ++ more)
unfolding events events_so_far
lines_begin ls ms ending = begun ls ms (λ f. tell.Ended (outcome (ls ++ ms) ending f) ∷ []) (λ b l f. refl)

-- the same, as long as more may come
lines_grow : (ls ms : List Reading) → (more : List EventPart) × (events_so_far (ls ++ ms) ≡ events_so_far ls ++ more)
unfolding events_so_far
lines_grow ls ms = begun ls ms ended_so_far (λ b l f. refl)

-- the events of records have no Ended
pub no_ended : (rs : List Record) → list_any is_ended (events_of rs) ≡ false
unfolding events_of
no_ended rs = list_any-append is_ended (opened rs) _ ∙ rw (of_opened (list_any opens rs) (opening_of rs), of_blocks (filter_map block_of (closed rs))) refl
  where
    of_opened : (b : Bool) (o : Option OpeningParts) → list_any is_ended (if b then option_to_list (option_map tell.Opened o) else []) ≡ false
    of_opened b o = grind arith

    of_blocks : (bs : List BlockParts) → list_any is_ended (map tell.Block bs) ≡ false
    of_blocks [] = refl
    of_blocks (b ∷ bs) = of_blocks bs

pub ended_placed : (n : ℕ) (es : List EventPart) → has_ended (placed n es) ≡ list_any is_ended es
ended_placed n [] = refl
ended_placed n (e ∷ es) = ap (λ b. is_ended e || b) (ended_placed (n + 1) es)

-- once the events have ended, they stay the same
pub lines_final : (ls ms : List Reading) (ending : Ending) → list_any is_ended (events_so_far ls) ≡ true → events (ls ++ ms) ending ≡ events_so_far ls
unfolding events events_so_far
lines_final ls ms ending = by_first (first_from [] ls) refl
  where
    by_first : (f : First) → first_from [] ls ≡ f → list_any is_ended (events_of (taken ls f) ++ ended_so_far f) ≡ true
        → events (ls ++ ms) ending ≡ events_of (taken ls f) ++ ended_so_far f
    by_first AllGood e h = absurd (not_both (sym (list_any-append is_ended (events_of (records ls)) [] ∙ rw (no_ended (records ls)) refl) ∙ h))
      where
        not_both : false ≡ true → ⊥
        not_both e = cc
    by_first (At b l f) e h = ap (λ x. events_of (taken (ls ++ ms) x) ++ tell.Ended (outcome (ls ++ ms) ending x) ∷ []) (fault_stays [] ls ms b l f e)

lines_app : (ending : Ending) (ps : List (List ℕ)) (k : List ℕ) (qs : List (List ℕ)) → lines_among ending (ps ++ k ∷ qs) ≡ ps ++ lines_among ending (k ∷ qs)
lines_app ending [] k qs = refl
lines_app ending (p ∷ []) k qs = refl
lines_app ending (p ∷ r ∷ ps) k qs = ap (λ xs. p ∷ xs) (lines_app ending (r ∷ ps) k qs)

long_first : (ending : Ending) (k : List ℕ) (qs : List (List ℕ)) → line_limit < length k → (zs : List (List ℕ)) × (lines_among ending (k ∷ qs) ≡ k ∷ zs)
long_first ending k [] h = ([], long_last k h ending)
long_first ending k (r ∷ qs) h = (lines_among ending (r ∷ qs), refl)

pub reading_long : (layout : LayoutTable) (k : List ℕ) → line_limit < length k → reading layout k ≡ Faulty faults.LongLine
unfolding reading
reading_long layout k h = let t : is_long k ≡ true = grind (arith, nat_tests) in rw t refl

-- the lines so far are the first lines of the text
abbrev BeginLines : LayoutTable → List ℕ → List ℕ → Ending → Type 0
BeginLines layout b more ending = (ys : List (List ℕ)) × (readings layout (b ++ more) ending ≡ readings layout b endings.Read ++ map (reading layout) ys)

begin_settled : (layout : LayoutTable) (b more : List ℕ) (ending : Ending) → IsSettled b → BeginLines layout b more ending
begin_settled layout b more ending s =
    let one = split_some is_line_feed (without_mark b) in
    let two = split_some is_line_feed more in
    let last = snoc one.0 one.1 in
    let pieces_b : pieces b ≡ last.0 ++ last.1 ∷ [] = one.2 ∙ last.2 in
    let pieces_more : pieces (b ++ more) ≡ last.0 ++ (last.1 ++ two.0) ∷ two.1 =
    ap (slice_split is_line_feed) (s more) ∙ split_join is_line_feed (without_mark b) more ∙ ap (λ z. join z (slice_split is_line_feed more)) pieces_b
    ∙ ap (join (last.0 ++ last.1 ∷ [])) two.2 ∙ join_last last.0 last.1 two.0 two.1 in
    let now : readings layout (b ++ more) ending ≡ map (reading layout) last.0 ++ map (reading layout) (lines_among ending ((last.1 ++ two.0) ∷ two.1)) =
    ap (map (reading layout)) (ap (lines_among ending) pieces_more ∙ lines_app ending last.0 (last.1 ++ two.0) two.1) ∙ map-append (reading layout) last.0 _ in
    by_length last.0 last.1 two.0 two.1 pieces_b now (cases_lt line_limit (length last.1))
  where
    by_length : (ps : List (List ℕ)) (k q : List ℕ) (qs : List (List ℕ)) → pieces b ≡ ps ++ k ∷ []
        → readings layout (b ++ more) ending ≡ map (reading layout) ps ++ map (reading layout) (lines_among ending ((k ++ q) ∷ qs))
        → (line_limit < length k) ⊎ (length k ≤ line_limit) → BeginLines layout b more ending
    by_length ps k q qs e now (inr h) = (
      lines_among ending ((k ++ q) ∷ qs),
      now ∙ ap (λ z. z ++ map (reading layout) (lines_among ending ((k ++ q) ∷ qs)))
          (sym (readings_short layout b k ps e h)),
    )
    by_length ps k q qs e now (inl h) =
        let h2 : line_limit < length (k ++ q) = simp length-append (omega arith) in
        let z = long_first ending (k ++ q) qs h2 in (
          z.0,
          now ∙ ap (λ x. map (reading layout) ps ++ map (reading layout) x) z.1
              ∙ ap (λ l. map (reading layout) ps ++ l ∷ map (reading layout) z.0) (reading_long layout (k ++ q) h2 ∙ sym (reading_long layout k h))
              ∙ sym (append_assoc (map (reading layout) ps) (reading layout k ∷ []) (map (reading layout) z.0))
              ∙ ap (λ x. x ++ map (reading layout) z.0) (sym (readings_long layout b k ps e h)),
        )

-- it is settled whether the bytes begin with the mark, or they are a part of it
settled_or_none : (layout : LayoutTable) (b : List ℕ) → IsSettled b ⊎ (readings layout b endings.Read ≡ [])
settled_or_none layout [] = inr refl
settled_or_none layout (x ∷ []) =
    elim (eqb 239 x) as (λ t. eqb 239 x ≡ t → IsSettled (x ∷ []) ⊎ (readings layout (x ∷ []) endings.Read ≡ []))
    [ true ↦ λ e. inr (rw (← eqb-true 239 x e) refl) | false ↦ λ e. inl (λ more. rw e refl) ] refl
settled_or_none layout (x ∷ y ∷ []) =
    elim (eqb 239 x) as (λ t. eqb 239 x ≡ t → IsSettled (x ∷ y ∷ []) ⊎ (readings layout (x ∷ y ∷ []) endings.Read ≡ [])) [
      | true ↦ λ e. elim (eqb 187 y) as (λ t. eqb 187 y ≡ t → IsSettled (x ∷ y ∷ []) ⊎ (readings layout (x ∷ y ∷ []) endings.Read ≡ []))
          [ true ↦ λ f. inr (rw (← eqb-true 239 x e, ← eqb-true 187 y f) refl) | false ↦ λ f. inl (λ more. rw (e, f) refl) ] refl
      | false ↦ λ e. inl (λ more. rw e refl)
    ] refl
settled_or_none layout (x ∷ y ∷ z ∷ b) = inl (λ more.
    elim (starts_with nat_eq (x ∷ y ∷ z ∷ []) byte_order_mark) as (λ t. (if t then b ++ more else x ∷ y ∷ z ∷ (b ++ more))
    ≡ (if t then b else x ∷ y ∷ z ∷ b) ++ more) [ true ↦ refl | false ↦ refl ])

pub readings_begin : (layout : LayoutTable) (b more : List ℕ) (ending : Ending) → BeginLines layout b more ending
readings_begin layout b more ending = elim (settled_or_none layout b) [
  | inl s ↦ begin_settled layout b more ending s
  | inr none ↦ (lines_among ending (pieces (b ++ more)), ap (λ z. z ++ readings layout (b ++ more) ending) (sym none))
]

prefix_placed : (n : ℕ) (xs ys more : List EventPart) → ys ≡ xs ++ more → IsPrefix (placed n xs) (placed n ys)
prefix_placed n xs ys more e = (placed (n + length xs) more, sym (ap (placed n) e ∙ placed-append n xs more))

pub so_far_begins_lem : (layout : LayoutTable) (b more : List ℕ) (ending : Ending) → IsPrefix (so_far layout b) (text_events layout (b ++ more) ending)
so_far_begins_lem layout b more ending =
    let r = readings_begin layout b more ending in
    let l = lines_begin (readings layout b endings.Read) (map (reading layout) r.0) ending in
    prefix_placed 0 (events_so_far (readings layout b endings.Read)) _ l.0 (ap (λ z. events z ending) r.1 ∙ l.1)

pub so_far_grows : (layout : LayoutTable) (b more : List ℕ) → IsPrefix (so_far layout b) (so_far layout (b ++ more))
so_far_grows layout b more =
    let r = readings_begin layout b more endings.Read in
    let l = lines_grow (readings layout b endings.Read) (map (reading layout) r.0) in
    prefix_placed 0 (events_so_far (readings layout b endings.Read)) _ l.0 (ap events_so_far r.1 ∙ l.1)

pub fault_is_final_lem : (layout : LayoutTable) (b more : List ℕ) (ending : Ending) → has_ended (so_far layout b) ≡ true
    → so_far layout b ≡ text_events layout (b ++ more) ending
fault_is_final_lem layout b more ending h =
    let r = readings_begin layout b more ending in
    ap (placed 0) (sym (ap (λ z. events z ending) r.1 ∙ lines_final (readings layout b endings.Read) (map (reading layout) r.0) ending
    (sym (ended_placed 0 (events_so_far (readings layout b endings.Read))) ∙ h)))
