-- The plan of one usage of a block.
use Rattle.dsr_ledger.proofs.Common.{◌≡◌, ℕ, ◌<◌, List, [], length, get_or, sym, ap, ◌∙◌, arith, cond, subst, Option, Some, map, option_map, slice_get, flat_map, get_or_from_slice_get, slice_get_within, WorkParts, SeatShare, part_of, work_parts, AreSeated, shares_of, Usage, Summaries, Ledger, SummaryKey, IsLined, IsPlanned, seat_at, IsWideAt, IsLineOf, index_at, state_with, ints, SummaryState, Key, key_eq, key_under, Tally, tally_with, Plan}
use Rattle.dsr_ledger.proofs.SeatedLemmas.{parts_of_shares, value_at, zip_step}

-- the summary and the line of usage i
pub record StepOf (ledger : Ledger) (summaries : Summaries) (place : List ℕ → Option SummaryKey) (isrc : List ℕ) (works : List WorkParts) (i : ℕ) (u : Usage)
    (plan : Plan) : Type 0 where
  pub line_below : i < length plan.lines.items
  pub summary : ℕ
  pub summary_is : index_at summaries u.summary_id ≡ Some summary
  pub summary_at : (d : ℕ) → get_or plan.summaries.items i d ≡ summary
  pub line : ℕ
  pub line_at : (d : ℕ) → get_or plan.lines.items i d ≡ line
  pub key : SummaryKey
  pub key_is : place u.summary_id ≡ Some key
  pub line_of : (n : ℕ) → n ≡ line → (shares : List SeatShare) → shares ≡ plan.shares.items → IsLineOf ledger isrc key (shares_of works) plan.recording n shares
  pub with_parts : (t : Tally) (q : Key) → cond (key_eq (key_under isrc key) q) (tally_with u (map (part_of u.amount) (shares_of works)) t) t
      ≡ cond (key_eq (key_under isrc key) q) (tally_with u (flat_map (work_parts u.amount) works) t) t

pub step_of : (ledger : Ledger) (summaries : Summaries) (place : List ℕ → Option SummaryKey) (isrc : List ℕ) (works : List WorkParts) (us : List Usage) (i : ℕ)
    (u : Usage) (plan : Plan) → IsPlanned ledger summaries place isrc works us plan → slice_get us i ≡ Some u
    → StepOf ledger summaries place isrc works i u plan
step_of ledger summaries place isrc works us i u plan h at =
    let v = value_at (λ (x : Usage). index_at summaries x.summary_id) us plan.summaries.items h.counted i u at in
    let z = zip_step (λ (x : Usage) n. IsLined ledger isrc plan.shares.items (place x.summary_id) n) us plan.lines.items i u h.lined at in
    record {
      line_below = slice_get_within plan.lines.items i z.other z.there;
      summary = v.0;
      summary_is = v.2;
      summary_at = λ d. get_or_from_slice_get plan.summaries.items i v.0 d v.1;
      line = z.other;
      line_at = λ d. get_or_from_slice_get plan.lines.items i z.other d z.there;
      key = z.related.summary_key;
      key_is = z.related.key_is;
      line_of = λ n is shares same. record {
        recording_is = h.recording_is;
        line_is = z.related.line_is ∙ ap Some (sym is);
        wide = subst (λ ss. IsWideAt ledger isrc ss n) (sym same) (subst (λ x. IsWideAt ledger isrc plan.shares.items x) (sym is) z.related.wide);
        seated = subst (λ ss. AreSeated (seat_at ledger isrc) ss (shares_of works)) (sym same) h.seated;
      };
      with_parts = λ t q. ap (λ ps. cond (key_eq (key_under isrc z.related.summary_key) q) (tally_with u ps t) t) (parts_of_shares u.amount works);
    }

-- the state of a summary, with no more usages
pub states_none : (id : List ℕ) (o : Option SummaryState) → o ≡ option_map (state_with id []) o
states_none id o = grind (arith, ints)
