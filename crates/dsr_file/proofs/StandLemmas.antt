-- What a reader represents after one more line or at the end of its text, and what follows from it.
use Rattle.dsr_file.proofs.Common.{◌≡◌, ℕ, ◌+◌, ◌≤◌, inl, inr, ◌∙◌, sym, ap, refl, subst, Bool, true, false, ◌||◌, List, [], ◌∷◌, ◌++◌, length, map, Option, None, Some, append_assoc, zero-add, length-append, take, drop, take-add, ◌-◌, arith, IsTrue, option_to_list, IfNone, append-nil, map-append, list_any-append, common_steps, list_any, Record, LayoutTable, FileFault, Ending, Outcome, EventPart, Ended, Step, Good, Faulty, NoMemory, Phase, FileReader, Placed, is_ended, has_ended, Reading, reading, records, events_of, fault_of, AllGood, first_from, events_so_far, placed, so_far, ended, known_events, known_lines, BeginsEvents, IsCutOff, EndsWith, Keeps, LineSteps, TakesMemory, CutsTo, CutSteps, Stands, StandsAt, SameText, AtLine, AtAnswer, AtCut, EndsAfter, IsDone, IsAt, Taken, counts_fault, events, phase_after, unwrap_or, SameBut, if◌then◌else◌}
use Rattle.dsr_events.specs.declared.fault.FileFault.TheVariants as faults
use Rattle.dsr_events.specs.declared.fault.Outcome.TheVariants as outcomes
use Rattle.dsr_file.specs.declared.cutter.Cut.{Cut}
use Rattle.dsr_file.specs.declared.cutter.Cut.TheVariants.{Long}
use Rattle.dsr_file.specs.declared.phase.Phase.TheVariants as phases
use Rattle.dsr_file.proofs.LineLemmas.{first_at}
use Rattle.dsr_file.proofs.TestLemmas.{faulty_steps}
use Rattle.dsr_file.proofs.LawLemmas.{no_ended, ended_placed, reading_long}
use Rattle.dsr_file.proofs.ReaderLemmas.{placed-append, length-placed, readings_short, readings_long, good_events}

not_both : false ≡ true → ⊥
not_both e = cc

-- the events given, and then these
pub placed_more : (es : List Placed) (xs ys : List EventPart) (n : ℕ) → es ≡ placed 0 xs → n ≡ length es → es ++ placed n ys ≡ placed 0 (xs ++ ys)
placed_more es xs ys n e h =
    let at : n ≡ 0 + length xs = h ∙ ap length e ∙ length-placed 0 xs ∙ sym (zero-add (length xs)) in
    ap (λ z. z ++ placed n ys) e ∙ ap (λ m. placed 0 xs ++ placed m ys) at ∙ sym (placed-append 0 xs ys)

pub ended_last : (es : List Placed) (p : ℕ) (o : Outcome) → has_ended (es ++ ended p o ∷ []) ≡ true
ended_last es p o = list_any-append (λ (e : Placed). is_ended e.part) es (ended p o ∷ []) ∙ or_true _
  where
    or_true : (a : Bool) → (a || true) ≡ true
    or_true a = grind arith

pub ends_has_ended : (es : List Placed) (o : Outcome) → EndsWith es o → has_ended es ≡ true
ends_has_ended es o (before, is) = ap has_ended is ∙ ended_last before (length before) o

-- the events of records have no Ended
pub going_is : (es : List Placed) (ys : List EventPart) (rs : List Record) → es ≡ placed 0 ys → ys ≡ events_of rs → has_ended es ≡ false
going_is es ys rs e h = ap has_ended e ∙ ended_placed 0 ys ∙ ap (list_any is_ended) h ∙ no_ended rs

-- the outcome at the next place ends the events
pub ends_next : (es : List Placed) (n : ℕ) (o : Outcome) (e : Placed) → e ≡ ended n o → n ≡ length es → EndsWith (es ++ e ∷ []) o
ends_next es n o e is at = (es, ap (λ x. es ++ x ∷ []) (is ∙ ap (λ m. ended m o) at))

-- an event, given its content
pub again : (place n : ℕ) (e : Placed) (part : EventPart) → record { place = n; part = part } ≡ e → e.place ≡ place → record { place = place; part = part } ≡ e
again place n e part view at = ap (λ k. record { place = k; part = part }) (sym (ap (λ x. x.place) view ∙ at)) ∙ view

-- one more event is given
pub at_next : (layout : LayoutTable) (r new : FileReader) (b : List ℕ) (es : List Placed) (e : Placed) → IsAt layout r b es → SameText r new
    → new.place ≡ r.place + 1 → IsAt layout new b (es ++ e ∷ [])
at_next layout r new b es e at same p =
    (same.layout ∙ at.0, same.given ∙ at.1, p ∙ ap (λ x. x + 1) at.2 ∙ sym (length-append es (e ∷ [])))

-- the event of the last line, if there is one, and then the outcome: `rs` are the records whose events are given
pub ends_stand : (layout : LayoutTable) (r new : FileReader) (b : List ℕ) (es : List Placed) (xs : List EventPart) (rs : List Record) (part : Option EventPart)
    (o : Outcome) (e : Placed) → IsAt layout r b es → es ≡ placed 0 xs → events_of rs ≡ xs ++ option_to_list part
    → known_events layout b new.ending ≡ placed 0 (events_of rs ++ Ended o ∷ []) → EndsAfter r.place part o e new → SameText r new → new.place ≡ r.place + 1
    → Stands layout new b (es ++ e ∷ [])
ends_stand layout r new b es xs rs part o e at ev more known gives same p =
    let so : es ++ placed r.place (option_to_list part) ≡ placed 0 (events_of rs) = placed_more es xs (option_to_list part) r.place ev at.2 ∙ ap (placed 0) (sym more) in
    record {
      at = at_next layout r new b es e at same p;
      phase_is = subst (λ x. StandsAt layout x new b (es ++ e ∷ [])) (sym gives.0) (by_part part gives.1 (going_is _ _ rs so refl)
          (known ∙ sym (placed_more (es ++ placed r.place (option_to_list part)) (events_of rs) (Ended o ∷ []) _ so refl)));
    }
  where
    by_part : (part : Option EventPart) → e ≡ record { place = r.place; part = unwrap_or part (Ended o) }
        → has_ended (es ++ placed r.place (option_to_list part)) ≡ false → known_events layout b new.ending
        ≡ (es ++ placed r.place (option_to_list part)) ++ ended (length (es ++ placed r.place (option_to_list part))) o ∷ []
        → StandsAt layout (phase_after part o) new b (es ++ e ∷ [])
    by_part None is none all = (
      inl (ap (λ x. es ++ x ∷ []) is ∙ ap (λ m. es ++ ended m o ∷ []) at.2 ∙ sym (ap (λ z. z ++ ended (length z) o ∷ []) (append-nil es)) ∙ sym all),
      ends_next es r.place o e is at.2,
    )
    by_part (Some q) is none all = rw is (all, none)

-- the events known at the first fault, which is that of the last line
fault_known : (layout : LayoutTable) (b : List ℕ) (told : Option Ending) (ls : List Reading) (l : Reading) (f : FileFault) → first_from [] ls ≡ AllGood
    → known_lines layout b told ≡ ls ++ l ∷ [] → fault_of ls l ≡ Some f
    → known_events layout b told ≡ placed 0 (events_of (records (if counts_fault f then ls ++ l ∷ [] else ls)) ++ Ended (outcomes.Fault (length ls + 1) f) ∷ [])
unfolding events events_so_far
fault_known layout b None ls l f g n e = ap (λ x. placed 0 (events_so_far x)) n ∙ rw (first_at ls l f [] g e) refl
fault_known layout b (Some ending) ls l f g n e = ap (λ x. placed 0 (events x ending)) n ∙ rw (first_at ls l f [] g e) refl

-- the last line has a fault
pub faulty_stands : (layout : LayoutTable) (r new : FileReader) (told : Option Ending) (number : ℕ) (step : Step) (f : FileFault) (closed : Option EventPart)
    (b : List ℕ) (es : List Placed) (e : Placed) → step ≡ Faulty f → AtAnswer layout r told number step closed b es → EndsAfter r.place closed (outcomes.Fault number f) e new
    → SameText r new → new.place ≡ r.place + 1 → Stands layout new b (es ++ e ∷ [])
faulty_stands layout r new told number step f closed b es e is a gives same p =
    let d : LineSteps a.ls a.l (Faulty f) closed r.grammar = subst (λ x. LineSteps a.ls a.l x closed r.grammar) is a.steps in
    let rs = records (if counts_fault f then a.ls ++ a.l ∷ [] else a.ls) in
    ends_stand layout r new b es (events_of (records a.ls)) rs closed (outcomes.Fault number f) e a.at a.events_are d.1
    (ap (known_events layout b) (same.ending ∙ a.told_is) ∙ fault_known layout b told a.ls a.l f a.good a.lines_are d.0
    ∙ ap (λ n. placed 0 (events_of rs ++ Ended (outcomes.Fault n f) ∷ [])) (sym a.number_is)) gives same p

-- memory was refused at the last line
pub memory_stands : (layout : LayoutTable) (r new : FileReader) (told : Option Ending) (number : ℕ) (step : Step) (closed : Option EventPart)
    (b : List ℕ) (es : List Placed) (e : Placed) → step ≡ NoMemory → AtAnswer layout r told number step closed b es → e ≡ ended r.place (outcomes.Fault number faults.Memory)
    → new.phase ≡ phases.Done (outcomes.Fault number faults.Memory) → SameText r new → new.place ≡ r.place + 1 → Stands layout new b (es ++ e ∷ [])
memory_stands layout r new told number step closed b es e refused a is d same p = let t : TakesMemory a.ls a.l = subst (λ x. LineSteps a.ls a.l x closed r.grammar) refused a.steps in record {
  at = at_next layout r new b es e a.at same p;
  phase_is = subst (λ x. StandsAt layout x new b (es ++ e ∷ [])) (sym d) (
    inr (subst (λ x. IsCutOff (known_lines layout b x) (es ++ e ∷ [])) (sym (same.ending ∙ a.told_is)) (record {
      before = a.ls;
      item = t.item;
      after = [];
      lines_are = a.lines_are ∙ ap (λ x. a.ls ++ x ∷ []) t.held;
      good = a.good;
      fits = t.fits;
      takes = t.takes;
      events_are =
          ap (λ x. es ++ x ∷ []) (is ∙ ap (λ m. ended r.place (outcomes.Fault m faults.Memory)) a.number_is)
          ∙ placed_more es (events_of (records a.ls)) (Ended (outcomes.Fault (length a.ls + 1) faults.Memory) ∷ []) r.place a.events_are a.at.2;
    })),
    ends_next es r.place _ e is a.at.2,
  );
}

-- the last line is good, and more lines may come
pub good_stands : (layout : LayoutTable) (r new : FileReader) (number : ℕ) (step : Step) (closed : Option EventPart) (b : List ℕ)
    (es : List Placed) → step ≡ Good → AtLine layout r number step closed b es → SameBut r new → new.place ≡ r.place + length (option_to_list closed) → r.phase ≡ phases.Reading
    → Stands layout new b (es ++ placed r.place (option_to_list closed))
good_stands layout r new number step closed b es is (a, (whole, cuts)) same p reads =
    let d : LineSteps a.ls a.l Good closed r.grammar = subst (λ x. LineSteps a.ls a.l x closed r.grammar) is a.steps in
    let lines : a.ls ++ a.l ∷ [] ≡ map (reading layout) whole =
    sym a.lines_are ∙ readings_short layout b r.cutter.bytes.items whole cuts.pieces_are r.cutter.short in
    let at : IsAt layout new b (es ++ placed r.place (option_to_list closed)) = (
      same.layout ∙ a.at.0,
      same.given ∙ a.at.1,
      p ∙ ap (λ x. x + length (option_to_list closed)) a.at.2
          ∙ sym (length-append es _ ∙ ap (λ x. length es + x) (length-placed r.place (option_to_list closed))),
    ) in
    record {
      at = at;
      phase_is = subst (λ x. StandsAt layout x new b (es ++ placed r.place (option_to_list closed))) (sym (same.phase ∙ reads)) (
        whole,
        subst (λ c. CutsTo c.bytes.items c.fresh b whole) (sym same.cutter) cuts,
        (
          subst (λ g. Keeps g (map (reading layout) whole)) (sym same.grammar) (subst (Keeps r.grammar) lines d.0),
          placed_more es (events_of (records a.ls)) (option_to_list closed) r.place a.events_are a.at.2
              ∙ ap (placed 0) (sym d.2 ∙ ap (λ x. events_of (records x)) lines),
          same.ending ∙ a.told_is,
          at,
        ),
      );
    }

-- a complete line, after the grammar has taken it
pub line_taken : (layout : LayoutTable) (old new : FileReader) (told : Option Ending) (ls : List Reading) (line c b : List ℕ) (es : List Placed) (step : Step)
    (closed : Option EventPart) → Taken layout old ls told c es → known_lines layout b told ≡ ls ++ reading layout line ∷ []
    → ((ls : List Reading) → Keeps old.grammar ls → LineSteps ls (reading old.layout line) step closed new.grammar) → IsAt layout new b es → new.ending ≡ told
    → AtAnswer layout new told (old.grammar.lines + 1) step closed b es
line_taken layout old new told ls line c b es step closed t lines steps at n = record {
  ls = ls;
  l = reading layout line;
  lines_are = lines;
  good = t.0.good;
  steps = subst (λ x. LineSteps ls (reading x line) step closed new.grammar) t.3.0 (steps ls t.0);
  number_is = ap (λ x. x + 1) t.0.lines_are;
  events_are = t.1;
  told_is = n;
  at = at;
}

-- the same, and more lines may come
pub line_read : (layout : LayoutTable) (old new : FileReader) (whole : List (List ℕ)) (line c b : List ℕ) (es : List Placed) (step : Step)
    (closed : Option EventPart) → CutsTo [] false b (whole ++ line ∷ []) → Taken layout old (map (reading layout) whole) None c es
    → ((ls : List Reading) → Keeps old.grammar ls → LineSteps ls (reading old.layout line) step closed new.grammar)
    → (new.cutter.bytes.items ≡ []) × (new.cutter.fresh ≡ false) → IsAt layout new b es → new.ending ≡ None
    → AtLine layout new (old.grammar.lines + 1) step closed b es
line_read layout old new whole line c b es step closed cuts t steps clear at n = (
  line_taken layout old new None (map (reading layout) whole) line c b es step closed t
      (readings_short layout b [] (whole ++ line ∷ []) cuts.pieces_are (omega arith) ∙ map-append (reading layout) whole (line ∷ [])) steps at n,
  (whole ++ line ∷ [], rw (clear.0, clear.1) cuts),
)

-- a line that is too long
pub long_stands : (layout : LayoutTable) (r new : FileReader) (cut : Cut) (b used : List ℕ) (es : List Placed) → cut ≡ Long → AtCut layout r cut b used es
    → new.phase ≡ phases.Done (outcomes.Fault (r.grammar.lines + 1) faults.LongLine) → SameText r new → new.place ≡ r.place + 1
    → Stands layout new (b ++ used) (es ++ ended r.place (outcomes.Fault (r.grammar.lines + 1) faults.LongLine) ∷ [])
long_stands layout r new cut b used es is (whole, cuts, t) d same p =
    let long : CutSteps b used whole Long r.cutter = subst (λ x. CutSteps b used whole x r.cutter) is cuts in
    faulty_stands layout r new None (r.grammar.lines + 1) (Faulty faults.LongLine) faults.LongLine None (b ++ used) es _ refl
    (line_taken layout r r None (map (reading layout) whole) long.0 (b ++ used) (b ++ used) es (Faulty faults.LongLine) None t
    (readings_long layout (b ++ used) long.0 whole long.2 long.1)
    (λ ls k. rw (reading_long r.layout long.0 long.1) (faulty_steps r.grammar ls faults.LongLine refl)) t.3 t.2) (d, refl) same p

pub pieces_joined : (b piece : List ℕ) (m n : ℕ) → m ≤ length piece
    → (b ++ take m piece) ++ take n (take (length piece - m) (drop m piece)) ≡ b ++ take (m + n) piece
pieces_joined b piece m n h =
    let all : take (length piece - m) (drop m piece) ≡ drop m piece = grind (arith, common_steps) in
    append_assoc b (take m piece) _ ∙ ap (λ x. b ++ (take m piece ++ take n x)) all ∙ ap (λ x. b ++ x) (sym (take-add m n piece))

pub stands_more : (layout : LayoutTable) (r : FileReader) (b piece : List ℕ) (es : List Placed) (m n : ℕ) (xs ys : List Placed) → m ≤ length piece → xs ≡ ys
    → Stands layout r ((b ++ take m piece) ++ take n (take (length piece - m) (drop m piece))) (es ++ xs) → Stands layout r (b ++ take (m + n) piece) (es ++ ys)
stands_more layout r b piece es m n xs ys h e s =
    subst (λ x. Stands layout r x (es ++ ys)) (pieces_joined b piece m n h)
    (subst (λ x. Stands layout r ((b ++ take m piece) ++ take n (take (length piece - m) (drop m piece))) (es ++ x)) e s)

pub if_none : {A : Type 0} {P Q : Type 0} (o : Option A) → (P → Q) → IfNone o P → IfNone o Q
if_none None f p = f p
if_none (Some x) f p = p

-- as long as lines are read, the events given are all so far
pub all_read : (layout : LayoutTable) (r : FileReader) (b : List ℕ) (es : List Placed) → Stands layout r b es → r.phase ≡ phases.Reading → es ≡ so_far layout b
all_read layout r b es s e =
    let at : StandsAt layout phases.Reading r b es = subst (λ x. StandsAt layout x r b es) e s.phase_is in
    at.2.1 ∙ ap (placed 0) (sym (ap events_so_far (readings_short layout b r.cutter.bytes.items at.0 at.1.pieces_are r.cutter.short)
    ∙ good_events (map (reading layout) at.0) at.2.0.good))

-- the events given are the first
pub first_given : (layout : LayoutTable) (r : FileReader) (b : List ℕ) (es : List Placed) (told : Option Ending) → Stands layout r b es → r.ending ≡ told
    → BeginsEvents layout b told es
first_given layout r b es told s n = by_phase r.phase refl s.phase_is
  where
    by_phase : (p : Phase) → r.phase ≡ p → StandsAt layout p r b es → BeginsEvents layout b told es
    by_phase phases.Reading e at = inl ([], append-nil es ∙ all_read layout r b es s e ∙ ap (known_events layout b) (sym at.2.2 ∙ n))
    by_phase (phases.Waiting o) e at = inl (_, sym at.0 ∙ ap (known_events layout b) n)
    by_phase (phases.Done o) e (inl h, l) = inl ([], append-nil es ∙ h ∙ ap (known_events layout b) n)
    by_phase (phases.Done o) e (inr h, l) = inr (subst (λ x. IsCutOff (known_lines layout b x) es) n h)

-- a reader is done exactly if Ended was given
pub done_ended : (layout : LayoutTable) (r : FileReader) (b : List ℕ) (es : List Placed) → Stands layout r b es
    → (IsDone r → has_ended es ≡ true) × (has_ended es ≡ true → IsDone r)
done_ended layout r b es s = by_phase r.phase refl s.phase_is
  where
    by_phase : (p : Phase) → r.phase ≡ p → StandsAt layout p r b es → (IsDone r → has_ended es ≡ true) × (has_ended es ≡ true → IsDone r)
    by_phase phases.Reading e at = ((λ d. absurd (not_both (rw e at d))), (λ h. absurd (not_both (sym (going_is es _ _ at.2.1 refl) ∙ h))))
    by_phase (phases.Waiting o) e at = ((λ d. absurd (not_both (rw e at d))), (λ h. absurd (not_both (sym at.1 ∙ h))))
    by_phase (phases.Done o) e at = ((λ d. ends_has_ended es o at.1), (λ h. rw e refl))

pub done_told : (layout : LayoutTable) (r : FileReader) (t : Bool) → (IsTrue t → IsDone r) → (IsDone r → IsTrue t) → (b : List ℕ) (es : List Placed)
    → Stands layout r b es → (IsTrue t → has_ended es ≡ true) × (has_ended es ≡ true → IsTrue t)
done_told layout r t there back b es s = let d = done_ended layout r b es s in ((λ h. d.0 (there h)), (λ h. back (d.1 h)))
