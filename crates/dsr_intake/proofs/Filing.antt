-- The file of a list of events, event by event.
use Rattle.dsr_intake.proofs.Common.{◌≡◌, ℕ, suc, ◌+◌, ◌<◌, ◌≤◌, ◌^◌, ◌||◌, true, false, List, [], ◌∷◌, ◌++◌, length, take, drop, get_or, Some, IsSome, refl, sym, ap, subst, ◌∙◌, arith, add-one, append_assoc, length-append, set, slice_get, filter_map, append-nil, set-set, set-get_or, take-append-drop, get_or_from_slice_get, filter_map-append, EventPart, Placed, is_ended, has_ended, IsOrderly, orderly_front, Books, File, Stands, ends_clean, is_clean_end, opening_in, block_in, outcome_in, first, file_of, with_part, is_opening, IsGoing, Knows, Changes, IsFollowed, TakesAll, common_steps, gets, slice_get_within}
use Rattle.std.proofs.Math.Seq.{take-suc}
use Rattle.dsr_events.specs.declared.event.EventPart.TheVariants as part
use Rattle.dsr_relay.proofs.Taking.{going_on}
use Rattle.dsr_intake.proofs.EndLemmas.{ends_clean_push, has_ended_push}

abbrev event : ℕ → EventPart → Placed
event n p = record { place = n; part = p }

-- the parts of one event, by what it is
module _ (n : ℕ) where
  more_at : (es : List Placed) (p : EventPart) → is_opening p ≡ false → filter_map outcome_in es ≡ [] → file_of (es ++ event n p ∷ [])
      ≡ with_part (file_of es) p
  more_at es (part.Opened o) later none = cc
  more_at es (part.Block b) later none = simp (filter_map-append, append-nil)
  more_at es (part.Ended o) later none = simp (filter_map-append, append-nil) (rw none refl)

-- an event that is no Ended has no outcome
no_outcome : (es : List Placed) → has_ended es ≡ false → filter_map outcome_in es ≡ []
no_outcome [] h = refl
no_outcome (e ∷ es) h = grind (arith, no_outcome es)

-- the first of an orderly list that has not ended is its opening
opened_first : (es : List Placed) → IsOrderly es → 0 < length es → has_ended es ≡ false → IsSome (first (filter_map opening_in es))
opened_first [] o some h = absurd (omega arith)
opened_first (e ∷ es) o some h = grind (arith, o.parts 0 e refl)

blocks_le : (es : List Placed) → length (filter_map block_in es) ≤ length es
blocks_le [] = omega arith
blocks_le (e ∷ es) = grind (arith, blocks_le es)

pub get_end : {A : Type 0} (xs : List A) (x : A) → slice_get (xs ++ x ∷ []) (length xs) ≡ Some x
get_end xs x = grind (arith, common_steps, gets)

-- the later event is no opening
pub later_part : (es : List Placed) (e : Placed) → IsOrderly (es ++ e ∷ []) → 0 < length es → is_opening e.part ≡ false
later_part es e o some = grind (arith, o.parts (length es) e (get_end es e))

-- a later event adds its part
pub file_more : (es : List Placed) (e : Placed) → IsOrderly (es ++ e ∷ []) → 0 < length es → has_ended es ≡ false → file_of (es ++ e ∷ [])
    ≡ with_part (file_of es) e.part
file_more es e o some h = more_at e.place es e.part (later_part es e o some) (no_outcome es h)

-- a file that has not ended can take one more event, whose place shows that there is room
pub going : (es : List Placed) → IsOrderly es → 0 < length es → has_ended es ≡ false → length es < 2 ^ 37 → IsGoing (file_of es)
going es o some h short =
    record { running = ap first (no_outcome es h); opened = opened_first es o some h; short = omega (arith, blocks_le es) }

pub get_set_same : {A : Type 0} (xs : List A) (k : ℕ) (x y : A) → slice_get xs k ≡ Some x → slice_get (set xs k y) k ≡ Some y
get_set_same xs k x y h = grind (arith, common_steps, gets, slice_get_within xs k x h)

pub changes_more : (a b c : Books) (k : ℕ) (f g h : File) → Changes a b k f g → Changes b c k g h → Changes a c k f h
changes_more a b c k f g h p q files stands at =
    subst (Stands c) (set-set files k g h) (q (set files k g) (p files stands at) (get_set_same files k f g at))

pub knows_more : (a b : Books) (k : ℕ) (f g : File) → Knows a k f → Changes a b k f g → Knows b k g
knows_more a b k f g w p = (set w.0 k g, p w.0 w.1 w.2, get_set_same w.0 k f g w.2)

pub changes_none : (a : Books) (k : ℕ) (f : File) → Changes a a k f f
changes_none a k f files stands at = subst (Stands a) (sym (ap (set files k) (sym (get_or_from_slice_get files k f f at)) ∙ set-get_or files k f)) stands

-- event i of those that follow, after those before it
pub record FollowsNext (taken events : List Placed) (i : ℕ) (e : Placed) : Type 0 where
  pub orderly : IsOrderly ((taken ++ take i events) ++ e ∷ [])
  pub running : has_ended (taken ++ take i events) ≡ false
  pub some : 0 < length (taken ++ take i events)
  pub more : taken ++ take (i + 1) events ≡ (taken ++ take i events) ++ e ∷ []

next_at : (taken events : List Placed) (i : ℕ) (d : Placed) → IsFollowed taken events → i < length events → FollowsNext taken events i (get_or events i d)
next_at taken events i d f low =
    let e = get_or events i d in
    let xs = taken ++ take i events in
    let rest = drop (suc i) events in
    let split : events ≡ take i events ++ e ∷ rest =
    sym (take-append-drop (suc i) events) ∙ ap (λ l. l ++ rest) (take-suc events i d low) ∙ append_assoc (take i events) (e ∷ []) rest in
    let whole : taken ++ events ≡ (xs ++ e ∷ []) ++ rest =
    ap (λ l. taken ++ l) split ∙ sym (append_assoc taken (take i events) (e ∷ rest)) ∙ sym (append_assoc xs (e ∷ []) rest) in
    let orderly = orderly_front (xs ++ e ∷ []) rest (subst IsOrderly whole f.orderly) in
    record {
      orderly = orderly;
      running = going_on xs e orderly;
      some = omega (arith, f.some, length-append taken (take i events));
      more = ap (λ l. taken ++ l) (rw add-one (take-suc events i d low)) ∙ sym (append_assoc taken (take i events) (e ∷ []));
    }

pub follows_next : (taken events : List Placed) (i : ℕ) (e : Placed) → IsFollowed taken events → i < length events → e ≡ get_or events i e
    → FollowsNext taken events i e
follows_next taken events i e f low is = subst (FollowsNext taken events i) (sym is) (next_at taken events i e f low)

pub takes_none : (a : Books) (k : ℕ) (taken : List Placed) → has_ended taken ≡ false → TakesAll a a k taken []
takes_none a k taken running = rw append-nil (changes_none a k (file_of taken), λ ended. absurd (cc))

-- the books take the next of the events that follow
pub takes_more : (a b c : Books) (k : ℕ) (taken events : List Placed) (i : ℕ) (e : Placed) → FollowsNext taken events i e
    → TakesAll a b k taken (take i events)
    → ((f : File) → Changes b c k f (with_part f e.part)) → (is_ended e.part ≡ true → is_clean_end e.part ≡ true) → TakesAll a c k taken (take (i + 1) events)
takes_more a b c k taken events i e n was step clean =
    let xs = taken ++ take i events in
    let same : with_part (file_of xs) e.part
    ≡ file_of (taken ++ take (i + 1) events) = sym (ap file_of n.more ∙ file_more xs e n.orderly n.some n.running) in (
      λ files stands at. subst (λ f. Stands c (set files k f)) same
          (changes_more a b c k (file_of taken) (file_of xs) (with_part (file_of xs) e.part) was.0 (step (file_of xs)) files stands at),
      λ ended. ap ends_clean n.more ∙ ends_clean_push xs e
          ∙ clean (sym (has_ended_push xs e ∙ ap (λ b. b || is_ended e.part) n.running) ∙ ap has_ended (sym n.more) ∙ ended),
    )
