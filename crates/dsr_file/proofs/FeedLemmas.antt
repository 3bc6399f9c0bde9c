-- The state of a reader and a sink while a source is read.
use Rattle.dsr_file.proofs.Common.{◌≡◌, ℕ, ◌+◌, ◌-◌, ◌≤◌, ◌⊎◌, inl, inr, ◌∙◌, sym, ap, refl, subst, List, [], ◌∷◌, ◌++◌, length, take, drop, Option, None, Some, false, append_assoc, length-take, length-drop, arith, option_to_list, is_some, IfNone, IfSome, append-nil, IsPrefix, LayoutTable, Ending, EventPart, FileReader, Placed, text_events, so_far, FileText, IsSomeRun, IsRun, BeginsEvents, HasEvents, Stands, IsDone, Fed, FedSome, event_at}
use Rattle.dsr_events.specs.declared.fault.Ending.TheVariants as endings
use Rattle.dsr_file.proofs.LawLemmas.{so_far_begins_lem, so_far_grows}
use Rattle.dsr_file.proofs.RunLemmas.{cut_off_run, cut_off_later}
use Rattle.dsr_file.proofs.StandLemmas.{stands_more}

pub prefix_self : {A : Type 0} (xs : List A) → IsPrefix xs xs
prefix_self xs = ([], append-nil xs)

pub prefix_more : {A : Type 0} (xs ys zs : List A) → IsPrefix xs ys → IsPrefix ys zs → IsPrefix xs zs
prefix_more xs ys zs p q = (p.0 ++ q.0, sym (append_assoc xs p.0 q.0) ∙ ap (λ l. l ++ q.0) p.1 ∙ q.1)

-- the first events of bytes are the first of each text that begins with the bytes
pub begins_later : (layout : LayoutTable) (b more : List ℕ) (ending : Ending) (es : List Placed) → BeginsEvents layout b None es
    → BeginsEvents layout (b ++ more) (Some ending) es
begins_later layout b more ending es (inl p) =
    inl (prefix_more es (so_far layout b) (text_events layout (b ++ more) ending) p (so_far_begins_lem layout b more ending))
begins_later layout b more ending es (inr c) = inr (cut_off_later layout b more ending es c)

-- they are the first of more bytes
pub begins_more : (layout : LayoutTable) (b more : List ℕ) (es : List Placed) → BeginsEvents layout b None es → BeginsEvents layout (b ++ more) None es
begins_more layout b more es (inl p) = inl (prefix_more es (so_far layout b) (so_far layout (b ++ more)) p (so_far_grows layout b more))
begins_more layout b more es (inr c) = inr (cut_off_later layout b more endings.Read es c)

pub begins_run : (layout : LayoutTable) (text : FileText) (es : List Placed) → BeginsEvents layout text.bytes (Some text.ending) es → IsRun layout text es
begins_run layout text es (inl p) = inl p
begins_run layout text es (inr c) = inr (cut_off_run layout text.bytes text.ending es c)

pub known_run : (layout : LayoutTable) (b : List ℕ) (told : Option Ending) (es : List Placed) → BeginsEvents layout b told es → IsSomeRun es
known_run layout b None es h = let text : FileText = record { bytes = b ++ []; ending = endings.Read } in
    (layout, text, begins_run layout text es (begins_later layout b [] endings.Read es h))
known_run layout b (Some ending) es h = let text : FileText = record { bytes = b; ending = ending } in (layout, text, begins_run layout text es h)

-- the event that a reader gives makes a run with the events before it
pub event_run : (layout : LayoutTable) (r : FileReader) (b : List ℕ) (told : Option Ending) (es : List Placed) (o : Option Placed) (e : Placed) → o ≡ Some e
    → ((layout : LayoutTable) (c : List ℕ) (gs : List Placed) → Stands layout r c gs → BeginsEvents layout c told gs)
    → Stands layout r b (es ++ option_to_list o) → IsSomeRun (es ++ e ∷ [])
event_run layout r b told es o e is begins s =
    known_run layout b told (es ++ e ∷ []) (subst (λ x. BeginsEvents layout b told (es ++ option_to_list x)) is (begins layout b _ s))

-- the same for what may be closed
pub part_run : (layout : LayoutTable) (r : FileReader) (b : List ℕ) (es : List Placed) (place at : ℕ) (o : Option EventPart) → at ≡ place
    → ((layout : LayoutTable) (c : List ℕ) (gs : List Placed) → Stands layout r c gs → BeginsEvents layout c None gs)
    → Stands layout r b (es ++ option_to_list (event_at place o)) → IfSome (event_at at o) (λ e. IsSomeRun (es ++ e ∷ []))
part_run layout r b es place at None is begins s = tt
part_run layout r b es place at (Some part) is begins s =
    subst (λ p. IsSomeRun (es ++ record { place = p; part = part } ∷ [])) (sym is)
    (event_run layout r b None es (event_at place (Some part)) (record { place = place; part = part }) refl begins s)

abbrev rest_of : List ℕ → ℕ → List ℕ
rest_of piece m = take (length piece - m) (drop m piece)

-- a call of `take_part` whose event, if there was one, was put
pub fed_more : (layout : LayoutTable) (r : FileReader) (b piece : List ℕ) (es fs : List Placed) (m n place at : ℕ) (o : Option EventPart) → m ≤ length piece
    → at ≡ place → fs ≡ es ++ option_to_list (event_at at o)
    → Stands layout r ((b ++ take m piece) ++ take n (rest_of piece m)) (es ++ option_to_list (event_at place o))
    → Stands layout r (b ++ take (m + n) piece) fs
fed_more layout r b piece es fs m n place at o h is put s =
    subst (λ x. Stands layout r (b ++ take (m + n) piece) x) (sym (put ∙ ap (λ p. es ++ option_to_list (event_at p o)) is))
    (stands_more layout r b piece es m n _ _ h refl s)

-- the list only grows by what was put
pub prefix_part : (xs ys zs : List Placed) (at : ℕ) (o : Option EventPart) → IsPrefix xs ys → zs ≡ ys ++ option_to_list (event_at at o) → IsPrefix xs zs
prefix_part xs ys zs at o p is = prefix_more xs ys zs p (option_to_list (event_at at o), sym is)

-- a call of `take_part` that closed nothing, after other calls
pub fed_all : (layout : LayoutTable) (r : FileReader) (b piece : List ℕ) (es : List Placed) (m n place : ℕ) (o : Option EventPart) → m ≤ length piece
    → n ≤ length (rest_of piece m) → is_some o ≡ false
    → Stands layout r ((b ++ take m piece) ++ take n (rest_of piece m)) (es ++ option_to_list (event_at place o))
    → IfNone o ((n ≡ length (rest_of piece m)) ⊎ IsDone r) → IfNone o
    ((layout : LayoutTable) (c : List ℕ) (gs : List Placed) → Stands layout r c gs → HasEvents layout c None gs) → Fed layout r b piece es
fed_all layout r b piece es m n place None h k is s w all =
    let now : Stands layout r (b ++ take (m + n) piece) es =
    subst (λ x. Stands layout r (b ++ take (m + n) piece) x) (append-nil es) (stands_more layout r b piece es m n [] [] h refl s) in
    record {
      used = m + n;
      bound = omega (arith, simp (length-take, length-drop) at k);
      whole = elim w [ inl e ↦ inl (omega (arith, simp (length-take, length-drop) at e)) | inr d ↦ inr d ];
      stands = now;
      all = all layout (b ++ take (m + n) piece) es now;
    }
fed_all layout r b piece es m n place (Some e) h k is s w all = absurd (cc)

-- an event that was refused
pub fed_some : (layout : LayoutTable) (r : FileReader) (b piece : List ℕ) (es fs : List Placed) (m n place at : ℕ) (o : Option EventPart) (e : Placed)
    → m ≤ length piece → n ≤ length (rest_of piece m) → at ≡ place → (event_at at o ≡ Some e) × (fs ≡ es)
    → Stands layout r ((b ++ take m piece) ++ take n (rest_of piece m)) (es ++ option_to_list (event_at place o))
    → ((layout : LayoutTable) (c : List ℕ) (gs : List Placed) → Stands layout r c gs → BeginsEvents layout c None gs)
    → FedSome layout b piece (fs ++ e ∷ [])
fed_some layout r b piece es fs m n place at o e h k is refused s begins = record {
  used = m + n;
  bound = omega (arith, simp (length-take, length-drop) at k);
  begins =
      subst (λ x. BeginsEvents layout (b ++ take (m + n) piece) None (x ++ e ∷ [])) (sym refused.1)
      (begins layout _ _ (stands_more layout r b piece es m n _ (e ∷ []) h (ap option_to_list (ap (λ p. event_at p o) (sym is) ∙ refused.0)) s));
}

-- the same at the end of a text
pub end_some : (layout : LayoutTable) (r : FileReader) (b : List ℕ) (told ending : Ending) (es fs : List Placed) (o : Option Placed) (e v : Placed)
    → told ≡ ending → o ≡ Some v → (e ≡ v) × (fs ≡ es)
    → ((layout : LayoutTable) (c : List ℕ) (gs : List Placed) → Stands layout r c gs → BeginsEvents layout c (Some told) gs)
    → Stands layout r b (es ++ option_to_list o) → BeginsEvents layout b (Some ending) (fs ++ e ∷ [])
end_some layout r b told ending es fs o e v t is same begins s =
    subst (λ x. BeginsEvents layout b (Some x) (fs ++ e ∷ [])) t
    (rw (same.1, same.0) (subst (λ x. BeginsEvents layout b (Some told) (es ++ option_to_list x)) is (begins layout b _ s)))
