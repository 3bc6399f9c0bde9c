-- What is left when the ends are joined.
use Rattle.dsr_relay.proofs.Common.{◌≡◌, ℕ, ◌+◌, ◌*◌, ◌≤◌, List, ◌++◌, length, drop, sym, ap, ◌∙◌, subst, arith, append_assoc, length-append, Placed, Log, Sends, Takes, Message, events_of, AreMessages, both_of, out_of, received_of, IsLeft, TapView, FeedView}
use Rattle.std.proofs.Math.Seq.{drop-append_seam}
use Rattle.dsr_relay.proofs.Known.{both_is, left_is}
use Rattle.dsr_relay.proofs.Messages.{events_of-append, events_of-length, messages_back}

-- what is left: the rest that is held, the queue and the batch
pub record Meets (taken sent : List Placed) (capacity : ℕ) : Type 0 where
  pub whole : taken ++ drop (length taken) sent ≡ sent
  pub few : length (drop (length taken) sent) ≤ 32 * capacity + 62

pub meets : (out received queue : List Message) (taken held batch : List Placed) (n : ℕ) → out ≡ received ++ queue → length queue ≤ n → AreMessages out
    → taken ++ held ≡ events_of received → length held ≤ 31 → length batch ≤ 31
    → Meets taken (events_of out ++ batch) n
meets out received queue taken held batch n order fits messages arrived few waits =
    let rest = held ++ (events_of queue ++ batch) in
    let is : events_of out ++ batch ≡ taken ++ rest =
    ap (λ ms. events_of ms ++ batch) order ∙ ap (λ l. l ++ batch) (events_of-append received queue ∙ ap (λ l. l ++ events_of queue) (sym arrived))
    ∙ append_assoc (taken ++ held) (events_of queue) batch ∙ append_assoc taken held (events_of queue ++ batch) in
    let left : drop (length taken) (events_of out ++ batch) ≡ rest = ap (λ l. drop (length taken) l) is ∙ drop-append_seam taken rest in
    record {
      whole = ap (λ l. taken ++ l) left ∙ sym is;
      few =
          omega (
            arith,
            ap length left,
            length-append held (events_of queue ++ batch),
            length-append (events_of queue) batch,
            events_of-length queue
                (messages_back received queue (subst AreMessages order messages)),
          );
    }

pub meets_as : (v u w : Log) (queue : List Message) (taken held batch : List Placed) (n : ℕ) → v ≡ Sends (out_of v) n → u ≡ Takes (received_of u)
    → w ≡ both_of v u → IsLeft w queue
    → taken ++ held ≡ events_of (received_of u) → length held ≤ 31 → length batch ≤ 31 → Meets taken (events_of (out_of v) ++ batch) n
meets_as v u w queue taken held batch n sends_is takes_is both left arrived few waits =
    let h = left_is w (out_of v) (received_of u) queue n (both ∙ both_is v u n sends_is takes_is) left in
    meets (out_of v) (received_of u) queue taken held batch n h.0 h.1 h.2 arrived few waits

pub meets_at : (t t' : TapView) (f f' : FeedView) (n m : ℕ) → t ≡ t' → f ≡ f' → n ≡ m → Meets t.taken f.sent n → Meets t'.taken f'.sent m
meets_at t t' f f' n m a b e h = subst (λ (p : TapView × FeedView × ℕ). Meets p.0.taken p.1.sent p.2) (λ i. (a i, b i, e i)) h
