-- The end of a text.
use Rattle.dsr_file.proofs.Common.{◌≡◌, ◌≢◌, ℕ, ◌+◌, ◌<◌, ◌≤◌, inl, inr, ◌∙◌, sym, ap, refl, subst, Bool, true, not, List, [], ◌∷◌, ◌++◌, length, map, Option, None, Some, arith, option_to_list, is_some, append-nil, map-append, nat_tests, pieces, line_limit, LayoutTable, Ending, Outcome, EventPart, Ended, Grammar, Step, Good, Phase, FileReader, Placed, has_ended, lines_among, Reading, reading, records, events_of, AllGood, first_from, taken, outcome, outcome_at, end_of, events, placed, readings, so_far, text_events, ended, known_events, HasEvents, Keeps, LineSteps, column_at, Stands, StandsAt, SameText, EndsAfter, AtAnswer, AtLines, IsAt}
use Rattle.dsr_events.specs.declared.fault.Ending.TheVariants as endings
use Rattle.dsr_file.specs.declared.phase.Phase.TheVariants as phases
use Rattle.dsr_file.proofs.StageLemmas.{column_kept}
use Rattle.dsr_file.proofs.LawLemmas.{fault_is_final_lem}
use Rattle.dsr_file.proofs.RunLemmas.{cut_off_later}
use Rattle.dsr_file.proofs.ReaderLemmas.{lines_last}
use Rattle.dsr_file.proofs.StandLemmas.{ends_stand, line_taken, ended_last, ends_has_ended}

pub readings_end : (layout : LayoutTable) (b k : List ℕ) (ps : List (List ℕ)) (ending : Ending) → pieces b ≡ ps ++ k ∷ []
    → readings layout b ending ≡ map (reading layout) ps ++ map (reading layout) (lines_among ending (k ∷ []))
readings_end layout b k ps ending e =
    ap (map (reading layout)) (ap (lines_among ending) e ∙ lines_last ending ps k) ∙ map-append (reading layout) ps (lines_among ending (k ∷ []))

no_line_end : (ending : Ending) (k : List ℕ) → length k ≤ line_limit → (ending ≡ endings.Whole → length k ≡ 0) → lines_among ending (k ∷ []) ≡ []
no_line_end ending k h w = grind (arith, nat_tests)

line_end : (k : List ℕ) → 0 < length k → lines_among endings.Whole (k ∷ []) ≡ k ∷ []
line_end k h = grind (arith, nat_tests)

-- the events of good lines at the end of a text
good_end : (ls : List Reading) (ending : Ending) → first_from [] ls ≡ AllGood
    → events ls ending ≡ events_of (records ls) ++ Ended (end_of (records ls) ending (length ls + 1)) ∷ []
unfolding events
good_end ls ending g = ap (λ f. events_of (taken ls f) ++ Ended (outcome ls ending f) ∷ []) g

-- the outcome that the grammar returns is that of the text
end_kept : (g : Grammar) (ls : List Reading) (ending : Ending) → Keeps g ls
    → outcome_at (column_at g.stage) ending (g.lines + 1) ≡ end_of (records ls) ending (length ls + 1)
end_kept g ls ending k =
    ap (λ c. outcome_at c ending (g.lines + 1)) (sym (column_kept g.stage (records ls) k.stage_is)) ∙ ap (λ n. end_of (records ls) ending (n + 1)) k.lines_are

-- the text ends after good lines
good_end_stands : (layout : LayoutTable) (r new : FileReader) (ending : Ending) (b : List ℕ) (es : List Placed) (xs : List EventPart) (ls : List Reading)
    (part : Option EventPart) (o : Outcome) (e : Placed) → IsAt layout r b es → r.ending ≡ Some ending → es ≡ placed 0 xs → Keeps r.grammar ls
    → readings layout b ending ≡ ls → events_of (records ls) ≡ xs ++ option_to_list part → o ≡ outcome_at (column_at r.grammar.stage) ending (r.grammar.lines + 1)
    → EndsAfter r.place part o e new → SameText r new → new.place ≡ r.place + 1 → Stands layout new b (es ++ e ∷ [])
good_end_stands layout r new ending b es xs ls part o e at told ev k lines more os gives same p =
    ends_stand layout r new b es xs (records ls) part o e at ev more
    (ap (known_events layout b) (same.ending ∙ told) ∙ ap (λ x. placed 0 (events x ending)) lines ∙ ap (placed 0) (good_end ls ending k.good)
    ∙ ap (λ x. placed 0 (events_of (records ls) ++ Ended x ∷ [])) (sym (os ∙ end_kept r.grammar ls ending k))) gives same p

pub no_line_stands : (layout : LayoutTable) (r new : FileReader) (ending : Ending) (b : List ℕ) (es : List Placed) (o : Outcome) (e : Placed)
    → AtLines layout r (Some ending) b es → (ending ≡ endings.Whole → length r.cutter.bytes.items ≡ 0)
    → o ≡ outcome_at (column_at r.grammar.stage) ending (r.grammar.lines + 1) → EndsAfter r.place None o e new → SameText r new → new.place ≡ r.place + 1
    → Stands layout new b (es ++ e ∷ [])
no_line_stands layout r new ending b es o e (whole, cuts, t) w os gives same p =
    let ls = map (reading layout) whole in
    good_end_stands layout r new ending b es (events_of (records ls)) ls None o e t.3 t.2 t.1 t.0
    (readings_end layout b r.cutter.bytes.items whole ending cuts.pieces_are
    ∙ ap (λ x. ls ++ map (reading layout) x) (no_line_end ending r.cutter.bytes.items r.cutter.short w) ∙ append-nil ls)
    (sym (append-nil (events_of (records ls)))) os gives same p

-- the last line, after the grammar has taken it
pub last_taken : (layout : LayoutTable) (old new : FileReader) (b : List ℕ) (es : List Placed) (step : Step) (closed : Option EventPart)
    (line : List ℕ) → AtLines layout old (Some endings.Whole) b es → 0 < length old.cutter.bytes.items → line ≡ old.cutter.bytes.items
    → ((ls : List Reading) → Keeps old.grammar ls → LineSteps ls (reading old.layout line) step closed new.grammar)
    → new.layout ≡ old.layout → new.given ≡ old.given → new.place ≡ old.place → new.ending ≡ old.ending
    → AtAnswer layout new (Some endings.Whole) (old.grammar.lines + 1) step closed b es
last_taken layout old new b es step closed line (whole, cuts, t) some is steps la g p n =
    line_taken layout old new (Some endings.Whole) (map (reading layout) whole) line b b es step closed t
    (readings_end layout b old.cutter.bytes.items whole endings.Whole cuts.pieces_are
    ∙ ap (λ x. map (reading layout) whole ++ map (reading layout) x) (line_end old.cutter.bytes.items some)
    ∙ ap (λ x. map (reading layout) whole ++ reading layout x ∷ []) (sym is)) steps
    (la ∙ t.3.0, g ∙ t.3.1, p ∙ t.3.2) (n ∙ t.2)

pub good_last : (layout : LayoutTable) (r new : FileReader) (number : ℕ) (step : Step) (closed : Option EventPart) (b : List ℕ) (es : List Placed) (o : Outcome)
    (e : Placed) → step ≡ Good → AtAnswer layout r (Some endings.Whole) number step closed b es
    → o ≡ outcome_at (column_at r.grammar.stage) endings.Whole (r.grammar.lines + 1) → EndsAfter r.place closed o e new → SameText r new
    → new.place ≡ r.place + 1 → Stands layout new b (es ++ e ∷ [])
good_last layout r new number step closed b es o e is a os gives same p =
    let d : LineSteps a.ls a.l Good closed r.grammar = subst (λ x. LineSteps a.ls a.l x closed r.grammar) is a.steps in
    good_end_stands layout r new endings.Whole b es (events_of (records a.ls)) (a.ls ++ a.l ∷ []) closed o e a.at a.told_is a.events_are d.0 a.lines_are d.2
    os gives same p

-- if the events of bytes have ended, all of them or because memory was refused, they are those of every text that
-- begins with the bytes
pub events_later : (layout : LayoutTable) (b more : List ℕ) (ending : Ending) (es : List Placed) → has_ended es ≡ true → HasEvents layout b None es
    → HasEvents layout (b ++ more) (Some ending) es
events_later layout b more ending es t (inl h) = inl (h ∙ fault_is_final_lem layout b more ending (sym (ap has_ended h) ∙ t))
events_later layout b more ending es t (inr c) = inr (cut_off_later layout b more ending es c)

events_told : (layout : LayoutTable) (b : List ℕ) (ending : Ending) (es : List Placed) → has_ended es ≡ true → HasEvents layout b None es
    → HasEvents layout b (Some ending) es
events_told layout b ending es t h = subst (λ x. HasEvents layout x (Some ending) es) (append-nil b) (events_later layout b [] ending es t h)

-- the ending is set
pub ending_set : (layout : LayoutTable) (old new : FileReader) (ending : Ending) (b : List ℕ) (es : List Placed) → old.ending ≡ None → new.ending ≡ Some ending
    → new.layout ≡ old.layout → new.given ≡ old.given → new.place ≡ old.place → new.phase ≡ old.phase → old.phase ≢ phases.Reading → Stands layout old b es
    → Stands layout new b es
ending_set layout old new ending b es o n la g p ph not s = record {
  at = (la ∙ s.at.0, g ∙ s.at.1, p ∙ s.at.2);
  phase_is = subst (λ x. StandsAt layout x new b es) (sym ph) (by_phase old.phase refl s.phase_is);
}
  where
    final : has_ended (so_far layout b) ≡ true → known_events layout b new.ending ≡ so_far layout b
    final h = ap (known_events layout b) n ∙ ap (λ x. text_events layout x ending) (sym (append-nil b)) ∙ sym (fault_is_final_lem layout b [] ending h)

    by_phase : (q : Phase) → old.phase ≡ q → StandsAt layout q old b es → StandsAt layout q new b es
    by_phase phases.Reading e at = absurd (not e)
    by_phase (phases.Waiting w) e at =
        let now : so_far layout b ≡ es ++ ended (length es) w ∷ [] = sym (ap (known_events layout b) o) ∙ at.0 in
        (final (ap has_ended now ∙ ended_last es (length es) w) ∙ now, at.1)
    by_phase (phases.Done w) e at = (
      subst (λ x. HasEvents layout b x es) (sym n) (events_told layout b ending es (ends_has_ended es w at.1) (subst (λ x. HasEvents layout b x es) o at.0)),
      at.1,
    )

pub is_none_is : (o : Option Ending) (r : Bool) → is_some o ≡ not r → r ≡ true → o ≡ None
is_none_is o r e t = grind arith
