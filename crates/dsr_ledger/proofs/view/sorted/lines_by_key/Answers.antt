use Rattle.dsr_ledger.proofs.Common.{◌≡◌, Bool, subst, append-nil, vec_len, vec_capacity, ℕ, ◌+◌, ◌<◌, List, ◌∷◌, [], ◌++◌, map, take, filter, get_or, length, sym, ap, ◌∙◌, arith, Bor, All, Some, is_lt, cond, map_push, take_all, All-push, ranks_by, answers_always, slice_get-get_or, Line, SummaryKey, summary_key_eq, line_keys, AreDistinctBelow, key_in, filter_more}
use Rattle.dsr_ledger.proofs.IndexMapLemmas.{number_at}
use Rattle.dsr_ledger.proofs.NumberedLemmas.{places_are_numbered}
use Rattle.dsr_ledger.proofs.KeyLemmas.{same_summary_key, summary_key_total, summary_key_ties}
use Rattle.dsr_ledger.proofs.SortedLemmas.{below_number, kept_apart, listed}
use Rattle.dsr_ledger.proofs.view.sorted.lines_by_key.Goals.{then-is_booked, else-is_booked}
use Rattle.dsr_ledger.proofs.view.sorted.lines_by_key.Goals as goal

abbrev Entry : Type 0
Entry = Bor SummaryKey × Bor Line

key_below : (ls : List Line) (n : ℕ) → AreDistinctBelow n (line_keys ls) → (i : ℕ) (l : Line) → i < length ls → l ≡ get_or ls i l → l.sums.key < n
key_below ls = below_number (λ (l : Line). l.sums.key) ls

-- the lines that have a booking among the first ones and one more
one_more : (ls : List Line) (i : ℕ) (l : Line) → i < length ls → l ≡ get_or ls i l
    → filter (λ x. x.sums.is_booked) (take (i + 1) ls) ≡ filter (λ x. x.sums.is_booked) (take i ls) ++ cond l.sums.is_booked (l ∷ []) []
one_more ls i l below is =
    filter_more (λ (x : Line). x.sums.is_booked) ls i l below ∙ ap (λ y. filter (λ x. x.sums.is_booked) (take i ls) ++ cond y.sums.is_booked (y ∷ []) []) (sym is)

pub bounds-keys-key : goal.bounds-keys-key
bounds-keys-key c =
    let below = key_below c.args.lines.now _ c.requires.numbers c.loop-line.line-index c.line-item.result c.loop-line-test.true c.line-item.is in
    omega (arith, below, c.key.ensures)

pub loop-line-preserved : goal.loop-line-preserved
loop-line-preserved c =
    let ks = c.args.keys.now in let ls = c.args.lines.now in let i = c.loop-line.line-index in let l = c.line-item.result in
    let old = c.loop-line.listed.items in let was = c.loop-line.invariant in
    let more = one_more ls i l c.loop-line-test.true c.line-item.is in
    let P = λ (e : Entry). key_in ks e.0.now ≡ Some e.1.now.sums.key in let below = key_below ls _ c.requires.numbers i l c.loop-line-test.true c.line-item.is in
    let line : Entry → Line = λ e. e.1.now in let ends : Bool → List Line = λ b. filter (λ x. x.sums.is_booked) (take i ls) ++ cond b (l ∷ []) [] in
    elim c.if-is_booked.branch [
      | then-is_booked w ↦
          let items = ap (λ v. v.items) w.listed-is ∙ w.push_reserved.ensures.items in
          let own = All-push P old _ was.own (
          number_at summary_key_eq same_summary_key ks l.sums.key _ c.requires.distinct
          (slice_get-get_or ks l.sums.key w.index-keys-key.result below
          ∙ ap Some (ap (λ n. get_or ks n w.index-keys-key.result) (sym w.key.ensures) ∙ sym w.index-keys-key.is))) in
          record {
            all = ap (map line) items ∙ map_push line old _ ∙ ap (λ zs. zs ++ l ∷ []) was.all ∙ sym (more ∙ ap ends (sym c.is_booked.ensures ∙ w.if-is_booked.true));
            own = subst (All P) (sym items) own;
            many = omega (arith, ap vec_len w.listed-is, w.push_reserved.ensures.len, was.many);
            room = ap vec_capacity w.listed-is ∙ w.push_reserved.ensures.capacity ∙ was.room;
          }
      | else-is_booked w ↦
          record {
            all = ap (λ v. map line v.items) w.listed-is ∙ was.all ∙ sym (append-nil _) ∙ sym (more ∙ ap ends (sym c.is_booked.ensures ∙ w.if-is_booked.false));
            own = subst (λ v. All P v.items) (sym w.listed-is) was.own;
            many = omega (arith, ap vec_len w.listed-is, was.many);
            room = ap vec_capacity w.listed-is ∙ was.room;
          }
    ]

pub returns-clause-listed : goal.returns-clause-listed
returns-clause-listed c =
    let ks = c.args.keys.now in let ls = c.args.lines.now in let was = c.loop-line.listed.items in let p : Line → Bool = λ x. x.sums.is_booked in
    listed summary_key_eq same_summary_key summary_key_total summary_key_ties (λ (e : Entry). e.0.now) (λ (e : Entry). e.1.now) (key_in ks)
    (places_are_numbered summary_key_eq same_summary_key ks).apart (λ (l : Line). l.sums.key) (filter p ls)
    (kept_apart (λ (l : Line). l.sums.key) p ls c.requires.numbers.apart) was c.sort_unstable_by.new.self.items
    (c.loop-line.invariant.all ∙ ap (filter p) (take_all c.loop-line.line-index ls c.loop-line-test.false))
    c.loop-line.invariant.own c.sort_unstable_by.ensures.permutation
    (c.sort_unstable_by.ensures.sorted _ (ranks_by summary_key_total (λ (e : Entry). e.0.now)) (answers_always _ _ _ (λ f a r f' k. ap is_lt k.met)))
