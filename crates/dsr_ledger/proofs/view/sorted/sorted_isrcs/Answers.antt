use Rattle.dsr_ledger.proofs.Common.{arith, common_steps, gets, rules, ◌≡◌, ◌++◌, ◌∷◌, [], Some, slice_get, length, length-map, map_push, append_assoc, keys, All, All-push, append-nil, sym, ap, ◌∙◌, subst, List, ℕ, Contains, IsDistinct, keys_of, is_lt, map-id, bytes_eq, nat_list_cmp_total, ranks_by, answers_always, index_of, bytes_eq-Decides, is_eq-slice_cmp, position-Some, AreListed, text_cmp}
use Rattle.dsr_ledger.proofs.TextLemmas.{same_text}
use Rattle.dsr_ledger.proofs.SortedLemmas.{put_in_order}
use Rattle.dsr_ledger.proofs.IndexMapLemmas.{number_at}
use Rattle.dsr_ledger.proofs.view.sorted.sorted_isrcs.Goals as goal

abbrev Entry : Type 0
Entry = List ℕ × ℕ

pub returns : goal.returns
returns c =
    let m = c.args.recordings.now in let was = c.loop-isrc.list.items in let sorted = c.sort_unstable_by.new.self.items in
    let names : keys_of was ≡ keys_of m.entries = sym (append-nil (keys_of was)) ∙ ap (λ l. keys_of was ++ keys_of l) (sym c.in-None.ensures.steps.0) ∙ c.loop-isrc.invariant.keys in
    subst (AreListed text_cmp (index_of bytes_eq m)) (map-id sorted) (
    put_in_order bytes_eq bytes_eq-Decides nat_list_cmp_total is_eq-slice_cmp (λ (e : Entry). e.0) (λ (e : Entry). e.1) (index_of bytes_eq m) was sorted
    (subst (IsDistinct bytes_eq) (sym names) c.iter-isrc-items.ensures.unique) c.loop-isrc.invariant.own
    (λ q n e. subst (λ ks. Contains ks q) (sym names) (
    let at = position-Some (bytes_eq q) (keys_of m.entries) n q e in (n, at.0, sym (same_text q _ at.1)))) c.sort_unstable_by.ensures.permutation
    (c.sort_unstable_by.ensures.sorted _ (ranks_by nat_list_cmp_total (λ (e : Entry). e.0)) (answers_always _ _ _ (λ f a r f' k. ap is_lt k.met))))

-- the item behind the first ones
behind : (xs ys : List (List ℕ)) (y : List ℕ) → slice_get (xs ++ y ∷ ys) (length xs) ≡ Some y
behind xs ys y = grind (arith, common_steps, gets)

pub loop-isrc-preserved : goal.loop-isrc-preserved
loop-isrc-preserved c =
    let m = c.args.recordings.now in let was = c.loop-isrc.list.items in let k = c.in-Some.isrc.now in let n = c.in_ok-number.number in
    let rest = c.next.new.self in let before = c.loop-isrc.invariant in let name : Entry → List ℕ = λ e. e.0 in
    let steps : keys_of c.loop-isrc.isrc-iterator ≡ k ∷ keys_of rest = search rules in
    let items : c.push.new.self.items ≡ was ++ (k, n) ∷ [] = search rules in let long : n ≡ length was = search rules in
    let all : keys m ≡ keys_of was ++ k ∷ keys_of rest = sym before.keys ∙ ap (λ l. keys_of was ++ l) steps in
    let here : slice_get (keys m) n ≡ Some k =
    ap (λ l. slice_get l n) all ∙ ap (slice_get (keys_of was ++ k ∷ keys_of rest)) (long ∙ sym (length-map was name)) ∙ behind (keys_of was) (keys_of rest) k in
    let P = λ (e : Entry). index_of bytes_eq m e.0 ≡ Some e.1 in
    record {
      keys = ap (λ l. keys_of l ++ keys_of rest) items ∙ ap (λ l. l ++ keys_of rest) (map_push name was (k, n))
          ∙ append_assoc (keys_of was) (k ∷ []) (keys_of rest) ∙ sym all;
      own = subst (λ l. All P l) (sym items) (All-push P was (k, n) before.own (number_at bytes_eq bytes_eq-Decides (keys m) n k c.iter-isrc-items.ensures.unique here));
    }
