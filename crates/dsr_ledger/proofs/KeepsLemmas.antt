-- Successive ledgers that keep what they have.
use Rattle.dsr_ledger.proofs.Common.{◌≡◌, ℕ, List, refl, ◌∙◌, Option, Some, map, WorkParts, SeatShare, shares_of, Usage, Summaries, Ledger, SummaryKey, IsLined, AreLined, IsPlanned, KeepsKeys, KeepsSeats, KeepsLines, SameNumbers, seat_at, line_at, IsWideAt, index_at, Plan}
use Rattle.dsr_ledger.proofs.SeatedLemmas.{seated_grows, zip_weaker}

pub keys_stay : (a : Ledger) → KeepsKeys a a
keys_stay a = record { tallies = λ q. refl; keys = λ k i e. e }

pub keys_twice : (a b c : Ledger) → KeepsKeys a b → KeepsKeys b c → KeepsKeys a c
keys_twice a b c g h = record { tallies = λ q. h.tallies q ∙ g.tallies q; keys = λ k i e. h.keys k i (g.keys k i e) }

pub seats_twice : (a b c : Ledger) → KeepsSeats a b → KeepsSeats b c → KeepsSeats a c
seats_twice a b c g h = record {
  tallies = λ q. h.tallies q ∙ g.tallies q;
  keys = h.keys ∙ g.keys;
  recordings = λ isrc. h.recordings isrc ∙ g.recordings isrc;
  seats = λ isrc q i e. h.seats isrc q i (g.seats isrc q i e);
}

pub lines_twice : (a b c : Ledger) → KeepsLines a b → KeepsLines b c → KeepsLines a c
lines_twice a b c g h = record {
  tallies = λ q. h.tallies q ∙ g.tallies q;
  keys = h.keys ∙ g.keys;
  recordings = λ isrc. h.recordings isrc ∙ g.recordings isrc;
  seats = λ isrc q. h.seats isrc q ∙ g.seats isrc q;
  lines = λ isrc k i e. h.lines isrc k i (g.lines isrc k i e);
  wide = λ isrc ss i e. h.wide isrc ss i (g.wide isrc ss i e);
}

pub numbers_stay : (a : Ledger) → SameNumbers a a
numbers_stay a = record { keys = refl; recordings = λ isrc. refl; seats = λ isrc q. refl; lines = λ isrc k. refl; wide = λ isrc ss i h. h }

pub numbers_twice : (a b c : Ledger) → SameNumbers a b → SameNumbers b c → SameNumbers a c
numbers_twice a b c g h = record {
  keys = h.keys ∙ g.keys;
  recordings = λ isrc. h.recordings isrc ∙ g.recordings isrc;
  seats = λ isrc q. h.seats isrc q ∙ g.seats isrc q;
  lines = λ isrc k. h.lines isrc k ∙ g.lines isrc k;
  wide = λ isrc ss i e. h.wide isrc ss i (g.wide isrc ss i e);
}

-- lines of usages are kept
pub lined_grows : (a b : Ledger) (isrc : List ℕ) (ss : List SeatShare) (key : List ℕ → Option SummaryKey)
    → ((k : SummaryKey) (i : ℕ) → line_at a isrc k ≡ Some i → line_at b isrc k ≡ Some i) → ((i : ℕ) → IsWideAt a isrc ss i → IsWideAt b isrc ss i)
    → (us : List Usage) (is : List ℕ) → AreLined a key isrc ss us is → AreLined b key isrc ss us is
lined_grows a b isrc ss key lines wide us is h =
    zip_weaker (λ (u : Usage) i. IsLined a isrc ss (key u.summary_id) i) (λ (u : Usage) i. IsLined b isrc ss (key u.summary_id) i)
    (λ u i l. record { summary_key = l.summary_key; key_is = l.key_is; line_is = lines l.summary_key i l.line_is; wide = wide i l.wide }) us is h

-- a plan is kept
pub planned_stays : (a b : Ledger) (s t : Summaries) (place : List ℕ → Option SummaryKey) (isrc : List ℕ) (works : List WorkParts) (us : List Usage)
    (plan : Plan) → SameNumbers a b → ((id : List ℕ) → index_at t id ≡ index_at s id) → IsPlanned a s place isrc works us plan
    → IsPlanned b t place isrc works us plan
planned_stays a b s t place isrc works us plan same index h = record {
  recording_is = same.recordings isrc ∙ h.recording_is;
  seated = seated_grows (seat_at a isrc) (seat_at b isrc) (λ q i e. same.seats isrc q ∙ e) plan.shares.items (shares_of works) h.seated;
  counted = (λ j. map (λ (u : Usage). index u.summary_id j) us) ∙ h.counted;
  lined =
      lined_grows a b isrc plan.shares.items place (λ k i e. same.lines isrc k ∙ e) (λ i e. same.wide isrc plan.shares.items i e) us plan.lines.items h.lined;
}
