-- The steps, if the view is known.
use Rattle.dsr_relay.proofs.Common.{◌≡◌, ℕ, ◌≤◌, List, [], ◌∷◌, ◌++◌, length, refl, sym, subst, Pushes, Pops, Forks, Merges, Learns, IsOrderly, Log, Fresh, Sends, Takes, Both, Spent, Message, events_of, IsMessage, AreMessages, Relayed, Goes, Comes, IsLeft, both_of, out_of, received_of}
use Rattle.dsr_relay.proofs.Moves.{sends, receives, forks, merges, learns}

pub sends_as : (n pass : ℕ) (v : Log) (x : Message) → v ≡ Sends (out_of v) n → IsMessage x → IsOrderly (events_of (out_of v) ++ x)
    → Pushes Relayed n pass v x (Goes v x)
sends_as n pass v x is size orderly = subst (λ (u : Log). Pushes Relayed n pass u x (Goes u x)) (sym is) (sends n pass (out_of v) n x refl size orderly)

pub receives_as : (pass : ℕ) (v : Log) → v ≡ Takes (received_of v) → Pops Relayed pass v (Comes v)
receives_as pass v is = subst (λ (u : Log). Pops Relayed pass u (Comes u)) (sym is) (receives pass (received_of v))

pub gone : (v : Log) (n : ℕ) (x : Message) (w : Log) → v ≡ Sends (out_of v) n → Goes v x w → w ≡ Sends (out_of v ++ x ∷ []) n
gone v n x w is h = subst (λ (u : Log). Goes u x w) is h

pub come : (v : Log) (x : Message) (w : Log) → v ≡ Takes (received_of v) → Comes v x w
    → (w ≡ Takes (received_of v ++ x ∷ [])) × IsOrderly (events_of (received_of v ++ x ∷ [])) × AreMessages (received_of v ++ x ∷ [])
come v x w is h = subst (λ (u : Log). Comes u x w) is h

pub forks_as : (pass capacity : ℕ) (v : Log) → v ≡ Fresh → Forks Relayed pass v (Sends [] capacity) (Takes [])
forks_as pass capacity v is = subst (λ (u : Log). Forks Relayed pass u (Sends [] capacity) (Takes [])) (sym is) (forks pass capacity)

pub merges_as : (pass other : ℕ) (v u : Log) (n : ℕ) → v ≡ Sends (out_of v) n → u ≡ Takes (received_of u) → Merges Relayed pass v other u (both_of v u) Spent
merges_as pass other v u n sends_is takes_is =
    subst (λ (p : Log × Log). Merges Relayed pass p.0 other p.1 (both_of p.0 p.1) Spent) (λ i. (sym sends_is i, sym takes_is i))
    (merges pass other (out_of v) (received_of u) n)

pub both_is : (v u : Log) (n : ℕ) → v ≡ Sends (out_of v) n → u ≡ Takes (received_of u) → both_of v u ≡ Both (out_of v) (received_of u) n
both_is v u n sends_is takes_is = λ i. both_of (sends_is i) (takes_is i)

pub learns_as : (pass : ℕ) (w : Log) (sent taken : List Message) (n : ℕ) → w ≡ Both sent taken n → Learns Relayed pass w (IsLeft w)
learns_as pass w sent taken n is = subst (λ (u : Log). Learns Relayed pass u (IsLeft u)) (sym is) (learns pass sent taken n)

pub left_is : (w : Log) (sent taken queue : List Message) (n : ℕ) → w ≡ Both sent taken n → IsLeft w queue
    → (sent ≡ taken ++ queue) × (length queue ≤ n) × AreMessages sent
left_is w sent taken queue n is h = subst (λ (u : Log). IsLeft u queue) is h
