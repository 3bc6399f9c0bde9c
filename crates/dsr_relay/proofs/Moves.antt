-- Each step keeps the rule of the relay.
use Rattle.dsr_relay.proofs.Common.{◌≡◌, ◌≢◌, ℕ, zero, suc, List, [], ◌∷◌, ◌++◌, length, set, ◌⊎◌, inl, inr, refl, sym, ap, ◌∙◌, subst, ⊎_elim, arith, append_assoc, length-append, Pushes, Pops, Forks, Merges, Learns, IsOrderly, orderly_nil, orderly_front, Log, Fresh, Sends, Takes, Both, Spent, Message, events_of, IsMessage, AreMessages, Knows, Relayed, Goes, Comes, IsLeft}
use mathlib.Core.Option.{some, some-ne-none, some-injective}
use lib.ListN.{get_elem?}
use Rattle.atomic_table.proofs.Lists.{at_set}
use Rattle.dsr_relay.proofs.Messages.{events_of-append, events_of-push, messages_push, messages_front}

module _ (feed tap : ℕ) (out received : List Message) (capacity : ℕ) where
  knows_set : (views : List Log) (pass : ℕ) (w : Log) → ((j : ℕ) (u : Log) → j ≢ pass → get_elem? views j ≡ some u → Knows feed tap out received capacity j u)
      → Knows feed tap out received capacity pass w
      → (j : ℕ) (u : Log) → get_elem? (set views pass w) j ≡ some u → Knows feed tap out received capacity j u
  knows_set views pass w others mine j u e =
      ⊎_elim
      (λ (x : (j ≡ pass) × (w ≡ u)). subst (λ (y : ℕ × Log). Knows feed tap out received capacity y.0 y.1) (λ i. (sym x.0 i, x.1 i)) mine)
      (λ (x : (j ≢ pass) × (get_elem? views j ≡ some u)). others j u x.0 x.1)
      (at_set views pass j w u e)

  -- what the other passes know stays true when the feed's list grows
  others_sent : (more : List Message) (j : ℕ) (u : Log) → j ≢ feed → Knows feed tap out received capacity j u → Knows feed tap more received capacity j u
  others_sent more j Fresh apart k = absurd (apart k.0)
  others_sent more j (Sends sent n) apart k = absurd (apart k.0)
  others_sent more j (Takes taken) apart k = k
  others_sent more j (Both sent taken n) apart k = absurd (apart k.0)
  others_sent more j Spent apart k = tt

  -- and when the tap's list grows
  others_taken : (more : List Message) (j : ℕ) (u : Log) → j ≢ tap → Knows feed tap out received capacity j u → Knows feed tap out more capacity j u
  others_taken more j Fresh apart k = absurd (apart k.1)
  others_taken more j (Sends sent n) apart k = k
  others_taken more j (Takes taken) apart k = absurd (apart k.0)
  others_taken more j (Both sent taken n) apart k = absurd (apart k.1)
  others_taken more j Spent apart k = tt

  -- and when one pass was both ends, whatever the ends are then
  others_spent : (feed' tap' : ℕ) (more got : List Message) (n j : ℕ) (u : Log) → j ≢ feed → j ≢ tap → Knows feed tap out received capacity j u
      → Knows feed' tap' more got n j u
  others_spent feed' tap' more got n j Fresh apart away k = absurd (apart k.0)
  others_spent feed' tap' more got n j (Sends sent m) apart away k = absurd (apart k.0)
  others_spent feed' tap' more got n j (Takes taken) apart away k = absurd (away k.0)
  others_spent feed' tap' more got n j (Both sent taken m) apart away k = absurd (apart k.0)
  others_spent feed' tap' more got n j Spent apart away k = tt

pub begins : Relayed [] (Fresh ∷ [])
begins = record {
  feed = 0;
  tap = 0;
  out = [];
  received = [];
  capacity = 0;
  in_order = refl;
  orderly = orderly_nil;
  messages = tt;
  fits = omega arith;
  knows = one;
}
  where
    one : (pass : ℕ) (v : Log) → get_elem? (Fresh ∷ []) pass ≡ some v → Knows 0 0 [] [] 0 pass v
    one zero v e = subst (Knows 0 0 [] [] 0 0) (some-injective _ _ e) (refl, refl, refl)
    one (suc pass) v e = absurd (some-ne-none v (sym e))

pub sends : (n pass : ℕ) (sent : List Message) (capacity : ℕ) (x : Message) → n ≡ capacity → IsMessage x → IsOrderly (events_of sent ++ x)
    → Pushes Relayed n pass (Sends sent capacity) x (Goes (Sends sent capacity) x)
sends n pass sent capacity x same size orderly queue views room h at =
    let mine : Knows h.feed h.tap h.out h.received h.capacity pass (Sends sent capacity) = h.knows pass (Sends sent capacity) at in
    let out = h.out ++ x ∷ [] in (
      Sends (sent ++ x ∷ []) capacity,
      record {
        feed = h.feed;
        tap = h.tap;
        out = out;
        received = h.received;
        capacity = h.capacity;
        in_order = ap (λ l. l ++ x ∷ []) h.in_order ∙ append_assoc h.received queue (x ∷ []);
        orderly = subst IsOrderly (sym (events_of-push h.out x)) (subst (λ l. IsOrderly (events_of l ++ x)) mine.1 orderly);
        messages = messages_push h.out x h.messages size;
        fits = omega (arith, length-append queue (x ∷ []), same, mine.2, room);
        knows = knows_set h.feed h.tap out h.received h.capacity views pass (Sends (sent ++ x ∷ []) capacity)
            (λ j u apart e. others_sent h.feed h.tap h.out h.received h.capacity out j u (λ j_is. apart (j_is ∙ sym mine.0)) (h.knows j u e))
            (mine.0, ap (λ l. l ++ x ∷ []) mine.1, mine.2);
      },
      refl,
    )

pub receives : (pass : ℕ) (taken : List Message) → Pops Relayed pass (Takes taken) (Comes (Takes taken))
receives pass taken x queue views h at =
    let mine : Knows h.feed h.tap h.out h.received h.capacity pass (Takes taken) = h.knows pass (Takes taken) at in
    let received = h.received ++ x ∷ [] in
    let order : h.out ≡ received ++ queue = h.in_order ∙ sym (append_assoc h.received (x ∷ []) queue) in
    let orderly : IsOrderly (events_of received) =
    orderly_front (events_of received) (events_of queue) (subst IsOrderly (ap events_of order ∙ events_of-append received queue) h.orderly) in
    let messages : AreMessages received = messages_front received queue (subst AreMessages order h.messages) in (
      Takes (taken ++ x ∷ []),
      record {
        feed = h.feed;
        tap = h.tap;
        out = h.out;
        received = received;
        capacity = h.capacity;
        in_order = order;
        orderly = h.orderly;
        messages = h.messages;
        fits = omega (arith, h.fits);
        knows = knows_set h.feed h.tap h.out received h.capacity views pass (Takes (taken ++ x ∷ []))
            (λ j u apart e. others_taken h.feed h.tap h.out h.received h.capacity received j u (λ j_is. apart (j_is ∙ sym mine.0)) (h.knows j u e))
            (mine.0, ap (λ l. l ++ x ∷ []) mine.1);
      },
      (
        refl,
        subst (λ l. IsOrderly (events_of (l ++ x ∷ []))) (sym mine.1) orderly,
        subst (λ l. AreMessages (l ++ x ∷ [])) (sym mine.1) messages,
      ),
    )

at_end : (l : List Log) (a b : Log) (j : ℕ) → get_elem? (l ++ a ∷ []) j ≡ some b → (get_elem? l j ≡ some b) ⊎ ((j ≡ length l) × (a ≡ b))
at_end [] a b zero e = inr (refl, some-injective a b e)
at_end [] a b (suc j) e = absurd (some-ne-none b (sym e))
at_end (x ∷ xs) a b zero e = inl e
at_end (x ∷ xs) a b (suc j) e = ⊎_elim inl (λ t. inr (ap suc t.0, t.1)) (at_end xs a b j e)

empty_back : (xs ys : List Message) → [] ≡ xs ++ ys → ys ≡ []
empty_back [] ys e = sym e
empty_back (x ∷ xs) ys e = absurd (cc)

empty_front : (xs ys : List Message) → [] ≡ xs ++ ys → xs ≡ []
empty_front [] ys e = refl
empty_front (x ∷ xs) ys e = absurd (cc)

pub forks : (pass capacity : ℕ) → Forks Relayed pass Fresh (Sends [] capacity) (Takes [])
forks pass capacity queue views h at =
    let mine : Knows h.feed h.tap h.out h.received h.capacity pass Fresh = h.knows pass Fresh at in
    let none : [] ≡ h.received ++ queue = sym mine.2 ∙ h.in_order in
    let vs : List Log = set views pass (Sends [] capacity) in
    record {
      feed = pass;
      tap = length vs;
      out = h.out;
      received = h.received;
      capacity = capacity;
      in_order = h.in_order;
      orderly = h.orderly;
      messages = h.messages;
      fits = omega (arith, ap length (empty_back h.received queue none));
      knows = λ j u e. ⊎_elim
          (λ was. knows_set pass (length vs) h.out h.received capacity views pass (Sends [] capacity)
          (λ i w apart there. others_spent h.feed h.tap h.out h.received h.capacity pass (length vs) h.out h.received capacity i w
          (λ i_is. apart (i_is ∙ sym mine.0)) (λ i_is. apart (i_is ∙ sym mine.1)) (h.knows i w there))
          (refl, sym mine.2, refl) j u was)
          (λ (last : (j ≡ length vs) × (Takes [] ≡ u)). subst (Knows pass (length vs) h.out h.received capacity j) last.1
          (last.0, sym (empty_front h.received queue none)))
          (at_end vs (Takes []) u j e);
    }

pub merges : (pass other : ℕ) (sent taken : List Message) (n : ℕ) → Merges Relayed pass (Sends sent n) other (Takes taken) (Both sent taken n) Spent
merges pass other sent taken n queue views h at apart there =
    let mine : Knows h.feed h.tap h.out h.received h.capacity pass (Sends sent n) = h.knows pass (Sends sent n) at in
    let was : get_elem? views other ≡ some (Takes taken) =
    ⊎_elim (λ (t : (other ≡ pass) × (Both sent taken n ≡ Takes taken)). absurd (apart t.0))
    (λ (t : (other ≢ pass) × (get_elem? views other ≡ some (Takes taken))). t.1)
    (at_set views pass other (Both sent taken n) (Takes taken) there) in
    let theirs : Knows h.feed h.tap h.out h.received h.capacity other (Takes taken) = h.knows other (Takes taken) was in
    let vs : List Log = set views pass (Both sent taken n) in
    record {
      feed = pass;
      tap = pass;
      out = h.out;
      received = h.received;
      capacity = h.capacity;
      in_order = h.in_order;
      orderly = h.orderly;
      messages = h.messages;
      fits = h.fits;
      knows = knows_set pass pass h.out h.received h.capacity vs other Spent
          (λ j u away e. ⊎_elim
          (λ (t : (j ≡ pass) × (Both sent taken n ≡ u)). subst (λ (y : ℕ × Log). Knows pass pass h.out h.received h.capacity y.0 y.1) (λ i. (sym t.0 i, t.1 i))
          (refl, refl, mine.1, theirs.1, mine.2))
          (λ (t : (j ≢ pass) × (get_elem? views j ≡ some u)). others_spent h.feed h.tap h.out h.received h.capacity pass pass h.out h.received h.capacity j u
          (λ j_is. t.0 (j_is ∙ sym mine.0)) (λ j_is. away (j_is ∙ sym theirs.0)) (h.knows j u t.1))
          (at_set views pass j (Both sent taken n) u e))
          tt;
    }

pub learns : (pass : ℕ) (sent taken : List Message) (n : ℕ) → Learns Relayed pass (Both sent taken n) (IsLeft (Both sent taken n))
learns pass sent taken n queue views h at =
    let mine : Knows h.feed h.tap h.out h.received h.capacity pass (Both sent taken n) = h.knows pass (Both sent taken n) at in
    (mine.2 ∙ h.in_order ∙ ap (λ l. l ++ queue) (sym mine.3), omega (arith, h.fits, mine.4), subst AreMessages (sym mine.2) h.messages)
