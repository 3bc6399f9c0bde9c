-- Runs of a text are orderly, and events cut off because memory was refused are a run.
use Rattle.dsr_file.proofs.Common.{◌≡◌, ℕ, ◌+◌, ◌<◌, inl, inr, ◌∙◌, sym, ap, refl, subst, false, List, [], ◌∷◌, ◌++◌, length, map, append_assoc, zero-add, length-append, arith, append-nil, list_any-append, BlockParts, LayoutTable, Ending, EventPart, Placed, is_ended, has_ended, IsOrderly, Reading, Holds, reading, records, events_of, first_from, taken, outcome, events, placed, readings, text_events, FileText, ended, EndsByMemory, IsRun, IsCutOff}
use Rattle.dsr_events.specs.declared.fault.FileFault.TheVariants as faults
use Rattle.dsr_events.specs.declared.fault.Ending.TheVariants as endings
use Rattle.dsr_events.specs.declared.fault.Outcome.TheVariants as outcomes
use Rattle.dsr_events.specs.declared.event.EventPart.TheVariants as tell
use Rattle.dsr_events.proofs.OrderlyLaws.{orderly_nil, orderly_front, orderly_push}
use Rattle.dsr_file.proofs.ReaderLemmas.{placed-append, length-placed, good_events}
use Rattle.dsr_file.proofs.LawLemmas.{HasShape, taken_shape, lines_begin, no_ended, ended_placed, readings_begin}

-- blocks after an opening
blocks_orderly : (front : List Placed) (n : ℕ) (bs : List BlockParts) → IsOrderly front → has_ended front ≡ false → n ≡ length front → 0 < n
    → IsOrderly (front ++ placed n (map tell.Block bs))
blocks_orderly front n [] o e l p = subst IsOrderly (sym (append-nil front)) o
blocks_orderly front n (b ∷ bs) o e l p =
    let one : Placed = record { place = n; part = tell.Block b } in
    subst IsOrderly (append_assoc front (one ∷ []) (placed (n + 1) (map tell.Block bs)))
    (blocks_orderly (front ++ one ∷ []) (n + 1) bs (orderly_push front one o e l (λ z. absurd (omega (arith, l, z, p))))
    (list_any-append (λ (f : Placed). is_ended f.part) front (one ∷ []) ∙ rw e refl) (ap (λ m. m + 1) l ∙ sym (length-append front (one ∷ [])))
    (omega arith))

shape_orderly : (es : List EventPart) → HasShape es → IsOrderly (placed 0 es)
shape_orderly es (inl e) = subst (λ xs. IsOrderly (placed 0 xs)) (sym e) orderly_nil
shape_orderly es (inr (o, bs, e)) =
    let one : Placed = record { place = 0; part = tell.Opened o } in
    subst (λ xs. IsOrderly (placed 0 xs)) (sym e) (blocks_orderly (one ∷ []) 1 bs (orderly_push [] one orderly_nil refl refl refl) refl refl (omega arith))

pub text_orderly : (layout : LayoutTable) (b : List ℕ) (ending : Ending) → IsOrderly (text_events layout b ending)
unfolding events
text_orderly layout b ending =
    let ls = readings layout b ending in
    let es = events_of (taken ls (first_from [] ls)) in
    let last = outcome ls ending (first_from [] ls) in
    let none : has_ended (placed 0 es) ≡ false = ended_placed 0 es ∙ no_ended (taken ls (first_from [] ls)) in
    let at : length (placed 0 es) ≡ 0 + length es = length-placed 0 es ∙ sym (zero-add (length es)) in
    subst IsOrderly (ap (λ m. placed 0 es ++ ended m last ∷ []) at ∙ sym (placed-append 0 es (tell.Ended last ∷ [])))
    (orderly_push (placed 0 es) (ended (length (placed 0 es)) last) (shape_orderly es (taken_shape ls)) none refl tt)

-- every run of a text is orderly
pub run_orderly : (layout : LayoutTable) (text : FileText) (es : List Placed) → IsRun layout text es → IsOrderly es
run_orderly layout text es (inl p) = orderly_front es p.0 (subst IsOrderly (sym p.1) (text_orderly layout text.bytes text.ending))
run_orderly layout text es (inr (front, line, p, none, is)) =
    subst IsOrderly (sym is) (orderly_push front (ended (length front) (outcomes.Fault line faults.Memory))
    (orderly_front front p.0 (subst IsOrderly (sym p.1) (text_orderly layout text.bytes text.ending))) none refl tt)

-- events cut off among the first lines are cut off among all lines
pub cut_off_more : (ls ms : List Reading) (es : List Placed) → IsCutOff ls es → IsCutOff (ls ++ ms) es
cut_off_more ls ms es c = record {
  before = c.before;
  item = c.item;
  after = c.after ++ ms;
  lines_are = ap (λ xs. xs ++ ms) c.lines_are ∙ append_assoc c.before (Holds c.item ∷ c.after) ms;
  good = c.good;
  fits = c.fits;
  takes = c.takes;
  events_are = c.events_are;
}

pub cut_off_later : (layout : LayoutTable) (b more : List ℕ) (ending : Ending) (es : List Placed) → IsCutOff (readings layout b endings.Read) es
    → IsCutOff (readings layout (b ++ more) ending) es
cut_off_later layout b more ending es c =
    let r = readings_begin layout b more ending in
    subst (λ ls. IsCutOff ls es) (sym r.1) (cut_off_more (readings layout b endings.Read) (map (reading layout) r.0) es c)

-- the events of the lines before, and then Ended with Memory
pub cut_off_is : (ls : List Reading) (es : List Placed) (c : IsCutOff ls es)
    → es ≡ placed 0 (events_of (records c.before)) ++ ended (length (placed 0 (events_of (records c.before))))
    (outcomes.Fault (length c.before + 1) faults.Memory) ∷ []
cut_off_is ls es c =
    let xs = events_of (records c.before) in
    c.events_are ∙ placed-append 0 xs _ ∙ ap (λ m. placed 0 xs ++ ended m (outcomes.Fault (length c.before + 1) faults.Memory) ∷ [])
    (zero-add (length xs) ∙ sym (length-placed 0 xs))

pub cut_off_run : (layout : LayoutTable) (b : List ℕ) (ending : Ending) (es : List Placed) → IsCutOff (readings layout b ending) es
    → EndsByMemory (text_events layout b ending) es
cut_off_run layout b ending es c =
    let xs = events_of (records c.before) in
    let l = lines_begin c.before (Holds c.item ∷ c.after) ending in
    let all : text_events layout b ending ≡ placed 0 xs ++ placed (0 + length xs) l.0 =
    ap (λ ls. placed 0 (events ls ending)) c.lines_are ∙ ap (placed 0) (l.1 ∙ ap (λ ys. ys ++ l.0) (good_events c.before c.good)) ∙ placed-append 0 xs l.0 in (
      placed 0 xs,
      length c.before + 1,
      (placed (0 + length xs) l.0, sym all),
      ended_placed 0 xs
          ∙ no_ended (records c.before),
      cut_off_is (readings layout b ending) es c,
    )
