use Rattle.dsr_ledger.proofs.Common.{arith, gets, rules, ◌≡◌, ◌++◌, ◌∷◌, [], refl, sym, ap, ◌∙◌, ◌+◌, subst, List, ℕ, Bor, All, All-push, bytes_eq-Decides, Contains, Some, None, take, take_all, take_more, map_push, slice_get, slice_get-map, slice_get-get_or, position-Some, is_some, some_index, keys, keys_of, bytes_eq, get, index_of, Recording, lent, IsStrictlySortedBy, text_cmp}
use Rattle.dsr_ledger.proofs.EachLemmas.{some_if}
use Rattle.dsr_ledger.proofs.IndexMapLemmas.{key_is}
use Rattle.dsr_ledger.proofs.view.sorted.sorted_recordings.Goals.{in-Some+in_ok-push, in_default}
use Rattle.dsr_ledger.proofs.view.sorted.sorted_recordings.Goals as goal

abbrev Named : Type 0
Named = Bor (List ℕ) × Bor Recording

abbrev Entry : Type 0
Entry = List ℕ × ℕ

pub loop-number-preserved : goal.loop-number-preserved
loop-number-preserved c =
    let m = c.args.recordings.now in let ss = c.as_slice-number-items.result.now in let i = c.loop-number.number-index in
    let e : Entry = c.loop-number-item.result in let was = c.loop-number.list.items in let before = c.loop-number.invariant in
    let pair : Named → List ℕ × Recording = λ x. (x.0.now, x.1.now) in let name : Entry → List ℕ = λ x. x.0 in
    let own = subst (λ l. All (λ (x : Entry). index_of bytes_eq m x.0 ≡ Some x.1) l) (sym c.as_slice-number-items.ensures.value) c.in_ok-sorted.ensures.own in
    let number : index_of bytes_eq m e.0 ≡ Some e.1 =
    subst (λ (x : Entry). index_of bytes_eq m x.0 ≡ Some x.1) (sym c.loop-number-item.is) (own i e c.loop-number-test.true) in
    let more : take (i + 1) ss ≡ take i ss ++ e ∷ [] = take_more ss i e c.loop-number-test.true ∙ ap (λ x. take i ss ++ x ∷ []) (sym c.loop-number-item.is) in
    let names : keys_of (take (i + 1) ss) ≡ keys_of (take i ss) ++ e.0 ∷ [] = ap keys_of more ∙ map_push name (take i ss) e in
    elim c.match-get_index.branch [
      | in-Some+in_ok-push w ↦
          let found : Named = w.in-Some.found in
          let items : c.match-get_index.list.items ≡ was ++ found ∷ [] = search rules in
          let there : slice_get m.entries e.1 ≡ Some (found.0.now, found.1.now) = search rules in
          let value : get bytes_eq m found.0.now ≡ Some found.1.now = search rules in
          let all = ap lent items ∙ map_push pair was found in
          record {
            keys = ap keys_of all ∙ map_push (λ (x : List ℕ × Recording). x.0) (lent was) (pair found)
                ∙ (λ j. before.keys j ++ key_is bytes_eq bytes_eq-Decides m e.1 found.0.now found.1.now there e.0 number j ∷ []) ∙ sym names;
            own = subst (λ l. All (λ (x : List ℕ × Recording). get bytes_eq m x.0 ≡ Some x.1) l) (sym all)
                (All-push (λ (x : List ℕ × Recording). get bytes_eq m x.0 ≡ Some x.1) (lent was) (pair found) before.own value);
          }
      | in_default w ↦
          let none : slice_get m.entries e.1 ≡ None = search rules in
          let at = position-Some (bytes_eq e.0) (keys m) e.1 e.0 number in
          absurd (grind (arith, gets, slice_get-get_or (keys m) e.1 e.0 at.0, slice_get-map (λ (x : List ℕ × Recording). x.0) m.entries e.1, none))
    ]

pub returns : goal.returns
returns c =
    let m = c.args.recordings.now in let ss = c.as_slice-number-items.result.now in let listed = c.in_ok-sorted.ensures in
    let all = take_all c.loop-number.number-index ss c.loop-number-test.false ∙ c.as_slice-number-items.ensures.value in
    let names : keys_of (lent c.loop-number.list.items) ≡ keys_of c.in_ok-sorted.sorted.items = c.loop-number.invariant.keys ∙ ap keys_of all in
    record {
      order = subst (IsStrictlySortedBy text_cmp) (sym names) listed.order;
      own = c.loop-number.invariant.own;
      all = λ q v e.
          let number = some_if is_some (index_of bytes_eq m q) refl (some_index (bytes_eq q) m.entries ∙ ap is_some e) in
          subst (λ ks. Contains ks q) (sym names) (listed.all q number.0 number.1);
    }
