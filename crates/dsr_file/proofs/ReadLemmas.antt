-- The results of reading a file.
use Rattle.dsr_file.proofs.Common.{◌≡◌, ℕ, ◌+◌, ◌-◌, ◌<◌, ◌≤◌, ◌⊎◌, inl, inr, ◌∙◌, sym, ap, refl, subst, Bool, true, false, List, [], ◌∷◌, ◌++◌, length, take, drop, Option, None, Some, append_assoc, take-append-drop, length-append, take_all, arith, append-nil, IsPrefix, Consumes, IsAtEnd, LayoutTable, Ending, Outcome, EventPart, Ended, FileReader, Placed, has_ended, records, events_of, last_of, events_so_far, placed, readings, text_events, so_far, FileText, ended, BeginsEvents, HasEvents, IsCutOff, EndsWith, Answered, AddsRead, Stands, StandsAt, IsDone, Fed, FedSome, Reads, IfErr, IfErr-weaker, IfOk, IfOk-weaker, Result, length-take}
use Rattle.std.proofs.Math.Seq.{take-append_seam, take-nil}
use Rattle.std.specs.Io.KnownBytes.{Keeps}
use Rattle.dsr_events.specs.declared.fault.Ending.TheVariants as endings
use Rattle.dsr_events.specs.declared.fault.FileFault.TheVariants as faults
use Rattle.dsr_events.specs.declared.fault.Outcome.TheVariants as outcomes
use Rattle.dsr_io.specs.declared.read_count.ReadCount.{ReadCount}
use Rattle.dsr_file.specs.declared.phase.Phase.TheVariants as phases
use Rattle.dsr_events.specs.layer.Names.{is_memory}
use Rattle.dsr_io.specs.meaning.Told.{Told}
use Rattle.dsr_file.specs.meaning.Sources.{EndsAs, Gave, before_last, Stopped}
use Rattle.dsr_file.specs.inner.ReaderSteps.{Finishes, FinishesSome}
use Rattle.dsr_file.specs.layer.Sources.{HasEarlier, IsRead, IsRefused}
use Rattle.dsr_file.proofs.LawLemmas.{fault_is_final_lem}
use Rattle.dsr_file.proofs.RunLemmas.{cut_off_is, cut_off_later}
use Rattle.dsr_file.proofs.StandLemmas.{ended_last, ends_has_ended, done_ended}
use Rattle.dsr_file.proofs.EndLemmas.{events_later}
use Rattle.dsr_file.proofs.PartLemmas.{last_of_push}
use Rattle.dsr_file.proofs.FeedLemmas.{prefix_self, prefix_more, begins_more}

not_both : true ≡ false → ⊥
not_both e = cc

pub consumes_more : (old mid new : Option (List ℕ)) (x y : List ℕ) → Consumes old mid x → Consumes mid new y → Consumes old new (x ++ y)
consumes_more old mid new x y p q = grind (arith, append_assoc)

pub consumes_kept : (old mid new : Option (List ℕ)) (x : List ℕ) → Consumes old mid x → Keeps mid new → Consumes old new x
consumes_kept old mid new x p q = grind arith

pub consumes_none : (old mid new : Option (List ℕ)) (x : List ℕ) → Consumes old mid x → Consumes mid new [] → Consumes old new x
consumes_none old mid new x p q = subst (Consumes old new) (append-nil x) (consumes_more old mid new x [] p q)

pub consumes_self : (x : Option (List ℕ)) → Consumes x x []
consumes_self x = grind arith

-- without bytes there is no Ended
nothing_ended : (layout : LayoutTable) → has_ended (so_far layout []) ≡ false
unfolding events_so_far events_of
nothing_ended layout = refl

nothing_known : (layout : LayoutTable) → so_far layout [] ≡ []
unfolding events_so_far events_of
nothing_known layout = refl

none_before : (reads : ReadCount) → before_last reads [] ≡ []
none_before reads = take-nil (0 - reads.last)

-- the last read gave nothing
earlier_all : (layout : LayoutTable) (reads : ReadCount) (given : List ℕ) (es : List Placed)
    → reads.last ≡ 0 → IsPrefix (so_far layout given) es → HasEarlier layout reads given es
earlier_all layout reads given es none h =
    subst (λ b. IsPrefix (so_far layout b) es) (sym (ap (λ n. take (length given - n) given) none ∙ take_all (length given - 0) given (omega arith))) h

-- reads, and then more reads
answered_more : (old mid new : ReadCount) (reads filled more some : ℕ) → Answered old mid reads filled → Answered mid new more some
    → Answered old new (reads + more) (filled + some)
answered_more old mid new reads filled more some a b = (
  λ less. omega (arith, a.0 (omega arith), b.0 (omega (arith, a.0 (omega arith)))),
  λ less. omega (arith, a.1 (omega arith), b.1 (omega (arith, a.1 (omega arith)))),
)

-- before the first read
pub no_reads : (layout : LayoutTable) (told : Told) (r : FileReader) (es : List Placed) → Stands layout r [] es → Reads layout told told 0 r es
no_reads layout told r es s = record {
  given = [];
  answered = (λ less. omega arith, λ less. omega arith);
  consumed = consumes_self told.remaining;
  few = omega arith;
  most = omega arith;
  last_small = λ some. absurd (omega (arith, some));
  stands = s;
  known = subst (λ xs. IsPrefix xs es) (sym (nothing_known layout)) (es, refl);
  earlier = subst (λ xs. IsPrefix xs es) (sym (ap (so_far layout) (none_before told.reads) ∙ nothing_known layout)) (es, refl);
  going = nothing_ended layout;
  kept = refl;
}

cut_off_ended : (layout : LayoutTable) (b : List ℕ) (es : List Placed) → HasEvents layout b None es → has_ended es ≡ false → es ≡ so_far layout b
cut_off_ended layout b es (inl h) n = h
cut_off_ended layout b es (inr c) n =
    let front = placed 0 (events_of (records c.before)) in
    absurd (not_both (sym (ap has_ended (cut_off_is (readings layout b endings.Read) es c)
    ∙ ended_last front (length front) (outcomes.Fault (length c.before + 1) faults.Memory)) ∙ n))

ended_not : (b : Bool) → (b ≡ true → ⊥) → b ≡ false
ended_not b n = grind arith

-- a read gave the first bytes of this buffer, after `reads` reads that each gave bytes
module _ (layout : LayoutTable) (before mid after : Told) (reads limit : ℕ) (file new : FileReader) (es fs : List Placed)
    (r : Reads layout before mid reads file es) (buf : List ℕ) (n : ℕ) (c : Consumes mid.remaining after.remaining (take n buf))
    (counts : AddsRead mid.reads after.reads n) (some : 0 < n) (bound : n ≤ length buf) (size : length buf ≤ 4096)
    (kept : after.failed ≡ mid.failed) (less : reads < limit) where
  abbrev piece : List ℕ
  piece = take n buf

  given_more : length (r.given ++ piece) ≡ length r.given + n
  given_more = simp (length-append, length-take) (omega arith)

  consumed : Consumes before.remaining after.remaining (r.given ++ piece)
  consumed = consumes_more before.remaining mid.remaining after.remaining r.given piece r.consumed c

  answered : Answered before.reads after.reads (reads + 1) (reads + 1)
  answered = answered_more before.reads mid.reads after.reads reads reads 1 1 r.answered
      (counts.0.0, λ low. omega (arith, some, counts.0.1 (omega (arith, some))))

  small : after.reads.last ≤ 4096
  small = omega (arith, counts.1, bound, size)

  abbrev gave : Gave limit before after (r.given ++ piece)
  gave = record {
    reads = reads + 1;
    filled = reads + 1;
    answered = answered;
    consumed = consumed;
    limited = omega (arith, less);
    least = omega (arith, given_more, r.few, some);
    most = omega (arith, given_more, r.most, bound, size);
    last_small = λ _. small;
  }

  -- the bytes given before it
  before_it : before_last after.reads (r.given ++ piece) ≡ r.given
  before_it = ap (λ n. take (length (r.given ++ piece) - n) (r.given ++ piece)) counts.1
      ∙ ap (λ n. take n (r.given ++ piece)) (omega (arith, given_more))
      ∙ take-append_seam r.given piece

  stopped : before.failed ≡ false → Stopped layout limit before after (r.given ++ piece) None
  stopped unfailed = (gave, refl, kept ∙ r.kept ∙ unfailed, ap (λ b. has_ended (so_far layout b)) before_it ∙ r.going)

  earlier : IsPrefix es fs → HasEarlier layout after.reads (r.given ++ piece) fs
  earlier grows = subst (λ b. IsPrefix (so_far layout b) fs) (sym before_it) (prefix_more _ es fs r.known grows)

  -- the used part of the piece, and the rest
  joined : (used : ℕ) (more : List ℕ) → (r.given ++ take used piece) ++ (drop used piece ++ more) ≡ (r.given ++ piece) ++ more
  joined used more =
      sym (append_assoc (r.given ++ take used piece) (drop used piece) more)
      ∙ ap (λ x. x ++ more) (append_assoc r.given (take used piece) (drop used piece) ∙ ap (λ x. r.given ++ x) (take-append-drop used piece))

  -- the piece has a fault, or memory was refused in it
  pub fault_read : before.failed ≡ false → IsPrefix es fs → Fed layout new r.given piece fs → IsDone new → IsRead layout limit before after fs
  fault_read unfailed grows f d = by_case f.all
    where
      b : List ℕ
      b = r.given ++ take f.used piece

      over : has_ended fs ≡ true
      over = (done_ended layout new b fs f.stands).0 d

      text : FileText
      text = record { bytes = r.given ++ piece; ending = endings.Whole }

      by_case : HasEvents layout b None fs → IsRead layout limit before after fs
      by_case (inl h) =
          let final : (more : List ℕ) (ending : Ending) → so_far layout b ≡ text_events layout ((r.given ++ piece) ++ more) ending =
          λ more ending. fault_is_final_lem layout b (drop f.used piece ++ more) ending (sym (ap has_ended h) ∙ over)
          ∙ ap (λ x. text_events layout x ending) (joined f.used more) in
          let whole : so_far layout b ≡ text_events layout (r.given ++ piece) endings.Whole =
          final [] endings.Whole ∙ ap (λ x. text_events layout x endings.Whole) (append-nil (r.given ++ piece)) in
          inl (
            text,
            inr (r.given ++ piece, stopped unfailed, ([], append-nil (r.given ++ piece)), λ more ending. sym (final more ending) ∙ whole),
            h ∙ whole,
          )
      by_case (inr cut) = inr (
        r.given ++ piece,
        None,
        stopped unfailed,
        subst (λ x. IsCutOff (readings layout x endings.Read) fs) (joined f.used [] ∙ append-nil (r.given ++ piece))
            (cut_off_later layout b (drop f.used piece ++ []) endings.Read fs cut),
        earlier grows,
      )

  -- the piece has no fault
  pub more_reads : IsPrefix es fs → Fed layout new r.given piece fs → (IsDone new → ⊥) → Reads layout before after (reads + 1) new fs
  more_reads grows f going_on = record {
    given = r.given ++ piece;
    answered = answered;
    consumed = consumed;
    few = omega (arith, given_more, r.few, some);
    most = omega (arith, given_more, r.most, bound, size);
    last_small = λ _. small;
    stands = subst (λ x. Stands layout new (r.given ++ x) fs) (all f.whole) f.stands;
    known = subst (λ xs. IsPrefix xs fs) put (prefix_self fs);
    earlier = earlier grows;
    going = ap has_ended (sym put) ∙ going;
    kept = kept ∙ r.kept;
  }
    where
      all : (f.used ≡ length piece) ⊎ IsDone new → take f.used piece ≡ piece
      all (inl e) = take_all f.used piece (omega (arith, e))
      all (inr d) = absurd (going_on d)

      going : has_ended fs ≡ false
      going = ended_not (has_ended fs) (λ t. going_on ((done_ended layout new (r.given ++ take f.used piece) fs f.stands).1 t))

      put : fs ≡ so_far layout (r.given ++ piece)
      put = cut_off_ended layout (r.given ++ piece) fs (subst (λ x. HasEvents layout (r.given ++ x) None fs) (all f.whole) f.all) going

  -- an event of the piece was refused
  pub piece_refused : (e : Placed) → before.failed ≡ false → IsPrefix es fs → FedSome layout r.given piece (fs ++ e ∷ [])
      → IsRefused layout limit before after fs e
  piece_refused e unfailed grows f = (
    r.given ++ piece,
    None,
    stopped unfailed,
    subst (λ x. BeginsEvents layout x None (fs ++ e ∷ [])) (joined f.used [] ∙ append-nil (r.given ++ piece))
        (begins_more layout (r.given ++ take f.used piece) (drop f.used piece ++ []) (fs ++ e ∷ []) f.begins),
    earlier grows,
  )

-- the reading has stopped at this ending: what the reader represents, and what the source gave
abbrev pub Ends : LayoutTable → ℕ → Told → Told → FileReader → Ending → List Placed → List Placed → Type 0
Ends layout limit before after file ending es fs =
    (given : List ℕ) × Stands layout file given es × Stopped layout limit before after given (Some ending) × HasEarlier layout after.reads given fs

-- a read gave nothing, after `reads` reads that each gave bytes: the source has nothing left, or it failed
module _ (layout : LayoutTable) (before mid after : Told) (reads limit : ℕ) (file : FileReader) (es fs : List Placed)
    (r : Reads layout before mid reads file es) (counts : AddsRead mid.reads after.reads 0) (less : reads < limit) (grows : IsPrefix es fs) where
  none_ends : (ending : Ending) → Consumes before.remaining after.remaining r.given → EndsAs limit after (reads + 1) reads ending
      → Ends layout limit before after file ending es fs
  none_ends ending c e = (
    r.given,
    r.stands,
    (
      record {
        reads = reads + 1;
        filled = reads;
        answered = (
          λ low. omega (arith, r.answered.0 (omega arith), counts.0.0 (omega (arith, r.answered.0 (omega arith)))),
          λ low. omega (arith, r.answered.1 low, counts.0.1 (omega (arith, r.answered.1 low))),
        );
        consumed = c;
        limited = omega (arith, less);
        least = r.few;
        most = r.most;
        last_small = λ _. omega (arith, counts.1);
      },
      e,
      r.going,
    ),
    earlier_all layout after.reads r.given fs counts.1 (prefix_more _ es fs r.known grows),
  )

  pub whole_ends : Consumes mid.remaining after.remaining [] → IsAtEnd after.remaining → before.failed ≡ false → after.failed ≡ mid.failed
      → Ends layout limit before after file endings.Whole es fs
  whole_ends c end unfailed k =
      none_ends endings.Whole (consumes_none before.remaining mid.remaining after.remaining r.given r.consumed c) (refl, end, k ∙ r.kept ∙ unfailed)

  pub failed_ends : Keeps mid.remaining after.remaining → after.failed ≡ true → Ends layout limit before after file endings.Read es fs
  failed_ends c f = none_ends endings.Read (consumes_kept before.remaining mid.remaining after.remaining r.given r.consumed c) (refl, f)

-- the limit on reads was reached
pub limit_ends : (layout : LayoutTable) (before after : Told) (reads limit : ℕ) (file : FileReader) (es fs : List Placed)
    → Reads layout before after reads file es → reads ≡ limit → IsPrefix es fs → before.failed ≡ false
    → Ends layout limit before after file endings.Reads es fs
limit_ends layout before after reads limit file es fs r end grows unfailed = (
  r.given,
  r.stands,
  (
    record {
      reads = reads;
      filled = reads;
      answered = r.answered;
      consumed = r.consumed;
      limited = omega (arith, end);
      least = r.few;
      most = r.most;
      last_small = r.last_small;
    },
    (end, end, r.kept ∙ unfailed),
    r.going,
  ),
  prefix_more _ es fs r.earlier grows,
)

-- what follows from the results of ending the text, which began with this reader and these events
module _ (limit : ℕ) (before after : Told) (old file : FileReader) (ending : Ending) (gs es fs : List Placed) (result : Result Outcome Placed)
    (ends : (layout : LayoutTable) → Stands layout old [] gs → Ends layout limit before after file ending es fs) where
  pub all_ended : IfOk result (Finishes file ending es fs)
      → IfOk result (λ o. (layout : LayoutTable) → Stands layout old [] gs → EndsWith fs o × IsRead layout limit before after fs)
  all_ended = IfOk-weaker result _ _ (λ o h layout s.
      let e = ends layout s in
      let all = h layout e.0 e.1 in (
        all.1,
        elim all.0 [ inl is ↦ inl (record { bytes = e.0; ending = ending }, inl e.2, is) | inr cut ↦ inr (e.0, Some ending, e.2, cut, e.3) ],
      ))

  pub some_ended : IfErr result (λ e. FinishesSome file ending es (fs ++ e ∷ []))
      → IfErr result (λ e. (layout : LayoutTable) → Stands layout old [] gs → IsRefused layout limit before after fs e)
  some_ended = IfErr-weaker result _ _ (λ x h layout s. let e = ends layout s in (e.0, Some ending, e.2, h layout e.0 e.1, e.3))

pub not_done : {D : Type 0} (t : Bool) → (D → t ≡ true) → t ≡ false → D → ⊥
not_done t back f d = not_both (sym (back d) ∙ f)

pub done_ends : (layout : LayoutTable) (r : FileReader) (b : List ℕ) (es : List Placed) (o : Outcome) → Stands layout r b es → r.phase ≡ phases.Done o
    → EndsWith es o
done_ends layout r b es o s d = let at : StandsAt layout (phases.Done o) r b es = subst (λ x. StandsAt layout x r b es) d s.phase_is in at.1

-- the piece has a fault
pub fed_done : (layout : LayoutTable) (r : FileReader) (b piece : List ℕ) (es : List Placed) (o : Outcome) (ending : Ending) → Fed layout r b piece es
    → r.phase ≡ phases.Done o → HasEvents layout (b ++ piece) (Some ending) es × EndsWith es o
fed_done layout r b piece es o ending f d =
    let ends : EndsWith es o = done_ends layout r (b ++ take f.used piece) es o f.stands d in (
      subst (λ x. HasEvents layout x (Some ending) es)
          (append_assoc b (take f.used piece) (drop f.used piece) ∙ ap (λ x. b ++ x) (take-append-drop f.used piece))
          (events_later layout (b ++ take f.used piece) (drop f.used piece) ending es (ends_has_ended es o ends) f.all),
      ends,
    )

abbrev part_by_memory : EventPart → Bool
part_by_memory (Ended o) = is_memory o
part_by_memory _ = false

abbrev last_by_memory : Option Placed → Bool
last_by_memory None = false
last_by_memory (Some e) = part_by_memory e.part

-- unless memory was refused, the events are all
pub all_kept : (layout : LayoutTable) (b : List ℕ) (ending : Ending) (es : List Placed) (o : Outcome) (t : Bool)
    → HasEvents layout b (Some ending) es × EndsWith es o → t ≡ is_memory o → t ≡ false → es ≡ text_events layout b ending
all_kept layout b ending es o t (inl h, ends) m f = h
all_kept layout b ending es o t (inr c, (before, is)) m f =
    let front = placed 0 (events_of (records c.before)) in
    let last : Placed = ended (length front) (outcomes.Fault (length c.before + 1) faults.Memory) in
    let one : last_of es ≡ Some last = ap last_of (cut_off_is (readings layout b ending) es c) ∙ last_of_push front last in
    let two : last_of es ≡ Some (ended (length before) o) = ap last_of is ∙ last_of_push before (ended (length before) o) in
    absurd (not_both (ap last_by_memory (sym one ∙ two) ∙ sym m ∙ f))
