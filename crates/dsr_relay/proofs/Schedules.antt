-- What every schedule preserves.
use Rattle.dsr_relay.proofs.Common.{◌≡◌, ℕ, ◌+◌, ◌*◌, ◌≤◌, Bool, true, false, true≢false, List, [], ◌∷◌, ◌++◌, length, map, set, Some, slice_get, refl, sym, ap, ◌∙◌, subst, arith, append_assoc, length-append, AllByRecursion, sum_by, Placed, IsOrderly, has_ended, ended_whole, IsMessage, events_of, Lane, Step, put, get, IsPrefix, Puts, Gets, Moves, file_of, Happens, Leads, IsFresh}
use Rattle.std.specs.Prelude.{sum}
use Rattle.std.proofs.lemmas.List.Sums.{sum-map, sum_by-cons}
use Rattle.dsr_relay.specs.layer.Laws.{IsInOrder, InEverySchedule, LeavesOthers, IsNeverStuck, IsBounded, IsDelivered}
use Rattle.dsr_relay.proofs.Messages.{append_nil}
use Rattle.dsr_relay.proofs.Lanes.{all_get, all_set, all_from, all_map, set_else, map_kept, map_same, total, total_set, total_below}

events_of_push : (ms : List (List Placed)) (m : List Placed) → events_of (ms ++ m ∷ []) ≡ events_of ms ++ m
events_of_push [] m = append_nil m
events_of_push (n ∷ ms) m = ap (λ l. n ++ l) (events_of_push ms m) ∙ sym (append_assoc n (events_of ms) m)

messages_push : (ms : List (List Placed)) (m : List Placed) → AllByRecursion IsMessage ms → IsMessage m → AllByRecursion IsMessage (ms ++ m ∷ [])
messages_push [] m h size = (size, tt)
messages_push (n ∷ ms) m h size = (h.0, messages_push ms m h.1 size)

-- what holds of each lane
pub record IsGood (l : Lane) : Type 0 where
  pub orderly : IsOrderly l.source
  pub ends : has_ended l.source ≡ true
  pub has_place : 1 ≤ l.capacity
  pub in_order : l.taken ++ events_of l.queue ≡ l.sent
  pub of_source : IsPrefix l.sent l.source
  pub fits : length l.queue ≤ l.capacity
  pub messages : AllByRecursion IsMessage l.queue

fresh_good : (l : Lane) → IsFresh l → IsGood l
fresh_good l h = record {
  orderly = h.orderly;
  ends = h.ends;
  has_place = h.has_place;
  in_order = (λ i. h.empty.2 i ++ events_of (h.empty.1 i)) ∙ sym h.empty.0;
  of_source = (l.source, ap (λ s. s ++ l.source) (sym h.empty.0));
  fits = omega (arith, ap length h.empty.1, h.has_place);
  messages = subst (AllByRecursion IsMessage) (sym h.empty.1) tt;
}

puts_good : (m : List Placed) (l k : Lane) → Puts m l k → IsGood l → IsGood k
puts_good m l k p h = subst IsGood (sym p.after_it) record {
  orderly = h.orderly;
  ends = h.ends;
  has_place = h.has_place;
  in_order = ap (λ e. l.taken ++ e) (events_of_push l.queue m) ∙ sym (append_assoc l.taken (events_of l.queue) m) ∙ ap (λ e. e ++ m) h.in_order;
  of_source = p.next;
  fits = omega (arith, length-append l.queue (m ∷ []), p.room);
  messages = messages_push l.queue m h.messages p.size;
}

gets_good : (l k : Lane) → Gets l k → IsGood l → IsGood k
gets_good l k g h = subst IsGood (sym g.after_it) record {
  orderly = h.orderly;
  ends = h.ends;
  has_place = h.has_place;
  in_order = append_assoc l.taken g.message (events_of g.rest) ∙ ap (λ q. l.taken ++ events_of q) (sym g.front) ∙ h.in_order;
  of_source = h.of_source;
  fits = omega (arith, ap length g.front, h.fits);
  messages = (subst (AllByRecursion IsMessage) g.front h.messages).1;
}

moves_good : (step : Step) (l k : Lane) → Moves step l k → IsGood l → IsGood k
moves_good (put n m) l k p h = puts_good m l k p h
moves_good (get n) l k g h = gets_good l k g h

moves_source : (step : Step) (l k : Lane) → Moves step l k → (k.source ≡ l.source) × (k.capacity ≡ l.capacity)
moves_source (put n m) l k p = (ap (λ (x : Lane). x.source) p.after_it, ap (λ (x : Lane). x.capacity) p.after_it)
moves_source (get n) l k g = (ap (λ (x : Lane). x.source) g.after_it, ap (λ (x : Lane). x.capacity) g.after_it)

done : Lane → ℕ
done l = length l.sent + length l.taken

moves_done : (step : Step) (l k : Lane) → Moves step l k → IsGood l → done l + 1 ≤ done k
unfolding done
moves_done (put n m) l k p h =
    omega (arith, ap (λ (x : Lane). length x.sent) p.after_it, ap (λ (x : Lane). length x.taken) p.after_it, length-append l.sent m, p.size.0)
moves_done (get n) l k g h =
    omega (
      arith,
      ap (λ (x : Lane). length x.sent) g.after_it,
      ap (λ (x : Lane). length x.taken) g.after_it,
      length-append l.taken g.message,
      (subst (AllByRecursion IsMessage) g.front h.messages).0.0,
    )

-- a step preserves it for all lanes
happens_good : (step : Step) (s t : List Lane) → Happens step s t → AllByRecursion IsGood s → AllByRecursion IsGood t
happens_good step s t h all =
    subst (AllByRecursion IsGood) (sym h.after_it) (all_set IsGood s (file_of step) h.moved all
    (moves_good step h.lane h.moved h.moves (all_get IsGood s (file_of step) h.lane all h.at)))

leads_good : (s t : List Lane) (steps : List Step) → AllByRecursion IsGood s → Leads s steps t → AllByRecursion IsGood t
leads_good s t [] all h = subst (AllByRecursion IsGood) h all
leads_good s t (step ∷ steps) all h = leads_good h.0 t steps (happens_good step s h.0 h.1 all) h.2

module _ {A : Type 0} (f : Lane → A) (kept : (step : Step) (l k : Lane) → Moves step l k → f k ≡ f l) where
  leads_kept : (s t : List Lane) (steps : List Step) → Leads s steps t → map f t ≡ map f s
  leads_kept s t [] h = ap (map f) (sym h)
  leads_kept s t (step ∷ steps) h =
      leads_kept h.0 t steps h.2 ∙ ap (map f) h.1.after_it ∙ map_kept f s (file_of step) h.1.lane h.1.moved h.1.at (kept step h.1.lane h.1.moved h.1.moves)

leads_done : (s t : List Lane) (steps : List Step) → AllByRecursion IsGood s → Leads s steps t → total done s + length steps ≤ total done t
leads_done s t [] all h = omega (arith, ap (total done) h)
leads_done s t (step ∷ steps) all h =
    let once =
    total_set done s (file_of step) h.1.lane h.1.moved h.1.at
    (moves_done step h.1.lane h.1.moved h.1.moves (all_get IsGood s (file_of step) h.1.lane all h.1.at)) in
    omega (arith, once, ap (total done) h.1.after_it, leads_done h.0 t steps (happens_good step s h.0 h.1 all) h.2)

total_sum : (f : Lane → ℕ) (ls : List Lane) → total f ls ≡ sum (map f ls)
total_sum f ls = go ls ∙ sym (sum-map f ls)
  where
    go : (ks : List Lane) → total f ks ≡ sum_by f ks
    go [] = refl
    go (k ∷ ks) = ap (λ n. f k + n) (go ks) ∙ sym (sum_by-cons f k ks)

half_done : (l : Lane) → IsGood l → done l ≤ 2 * length l.source
unfolding done
half_done l h = omega (arith, ap length h.in_order, length-append l.taken (events_of l.queue), ap length h.of_source.1, length-append l.sent h.of_source.0)

pub in_every_schedule : InEverySchedule
in_every_schedule first lanes steps fresh h =
    let good : AllByRecursion IsGood lanes = leads_good first lanes steps (all_map IsFresh IsGood first fresh_good fresh) h in (
      all_map IsGood IsInOrder lanes (λ l g. record { in_order = g.in_order; of_source = g.of_source; fits = g.fits }) good,
      leads_kept (λ l. l.source) (λ step l k m. (moves_source step l k m).0) first lanes steps h,
      leads_kept (λ l. l.capacity) (λ step l k m. (moves_source step l k m).1) first lanes steps h,
    )

pub leaves_others : LeavesOthers
leaves_others step before after k h apart = ap (λ (ls : List Lane). slice_get ls k) h.after_it ∙ set_else before (file_of step) k h.moved apart

pub bounded : IsBounded
bounded first lanes steps fresh h =
    let start : AllByRecursion IsGood first = all_map IsFresh IsGood first fresh_good fresh in
    let good : AllByRecursion IsGood lanes = leads_good first lanes steps start h in
    let most = total_below done (λ l. length l.source) lanes (all_map IsGood (λ l. done l ≤ 2 * length l.source) lanes half_done good) in
    let same : map (λ l. length l.source) lanes ≡ map (λ l. length l.source) first =
    leads_kept (λ l. length l.source) (λ step l k m. ap length (moves_source step l k m).0) first lanes steps h in
    omega (arith, leads_done first lanes steps start h, most, total_sum (λ l. length l.source) lanes, ap sum same)

-- a lane that is good and has not taken its Ended can move
can_move : (lanes : List Lane) (k : ℕ) (l : Lane) → IsGood l → slice_get lanes k ≡ Some l → has_ended l.taken ≡ false
    → (step : Step) × (next : List Lane) × (file_of step ≡ k) × Happens step lanes next
can_move lanes k l h at none = by_queue l.queue refl
  where
    moves : (step : Step) (m : Lane) → file_of step ≡ k → Moves step l m → (step : Step) × (next : List Lane) × (file_of step ≡ k) × Happens step lanes next
    moves step m is how = (
      step,
      set lanes (file_of step) m,
      is,
      record { lane = l; moved = m; at = ap (λ n. slice_get lanes n) is ∙ at; moves = how; after_it = refl },
    )

    -- if the queue is empty, what was sent was taken, so the source has more events
    sends : l.queue ≡ [] → (rest : List Placed) → l.source ≡ l.sent ++ rest → has_ended l.sent ≡ false
        → (step : Step) × (next : List Lane) × (file_of step ≡ k) × Happens step lanes next
    sends empty [] is going = absurd (true≢false (sym h.ends ∙ ap has_ended (is ∙ append_nil l.sent) ∙ going))
    sends empty (e ∷ rest) is going = moves (put k (e ∷ [])) (record l { sent = l.sent ++ e ∷ []; queue = l.queue ++ (e ∷ []) ∷ [] }) refl record {
      room = omega (arith, ap length empty, h.has_place);
      going = going;
      size = (omega arith, omega arith);
      next = (rest, is ∙ sym (append_assoc l.sent (e ∷ []) rest));
      after_it = refl;
    }

    by_queue : (queue : List (List Placed)) → l.queue ≡ queue → (step : Step) × (next : List Lane) × (file_of step ≡ k) × Happens step lanes next
    by_queue [] is =
        let same : l.taken ≡ l.sent = sym (append_nil l.taken) ∙ ap (λ q. l.taken ++ events_of q) (sym is) ∙ h.in_order in
        sends is h.of_source.0 h.of_source.1 (ap has_ended (sym same) ∙ none)
    by_queue (m ∷ rest) is =
        moves (get k) (record l { queue = rest; taken = l.taken ++ m }) refl record { message = m; rest = rest; front = is; after_it = refl }

pub never_stuck : IsNeverStuck
never_stuck first lanes steps k l fresh h at none =
    can_move lanes k l (all_get IsGood lanes k l (leads_good first lanes steps (all_map IsFresh IsGood first fresh_good fresh) h) at) at none

pub delivered : IsDelivered
delivered first lanes steps fresh h no_more =
    let good : AllByRecursion IsGood lanes = leads_good first lanes steps (all_map IsFresh IsGood first fresh_good fresh) h in
    map_same (λ l. l.taken) (λ l. l.source) lanes
    (all_from (λ l. l.taken ≡ l.source) lanes
    (λ k l at. let g = all_get IsGood lanes k l good at in all_taken l g (has_ended l.taken) refl
    (λ none. let more = can_move lanes k l g at none in no_more more.0 more.1 more.3)))
    ∙ leads_kept (λ l. l.source) (λ step l k m. (moves_source step l k m).0) first lanes steps h
  where
    all_taken : (l : Lane) → IsGood l → (b : Bool) → has_ended l.taken ≡ b → (has_ended l.taken ≡ false → ⊥) → l.taken ≡ l.source
    all_taken l g false is stuck = absurd (stuck is)
    all_taken l g true is stuck =
        let whole : l.source ≡ l.taken ++ (events_of l.queue ++ g.of_source.0) =
        g.of_source.1 ∙ ap (λ s. s ++ g.of_source.0) (sym g.in_order) ∙ append_assoc l.taken (events_of l.queue) g.of_source.0 in
        sym (whole
        ∙ ap (λ r. l.taken ++ r) (ended_whole l.taken (events_of l.queue ++ g.of_source.0) (subst IsOrderly whole g.orderly) is) ∙ append_nil l.taken)
