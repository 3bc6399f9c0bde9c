use Rattle.dsr_ledger.proofs.Common.{◌≡◌, to_z, of_z, w128, rules, ℕ, ◌+◌, ◌<◌, Bool, List, [], ◌∷◌, ◌++◌, append-nil, arith, cond, map, take, filter, get_or, get_or_default, length, sym, ap, ◌∙◌, subst, is_lt, nat_list_cmp_total, map-append, take_all, ranks_by, answers_always, PartyLine, SeatPart, part_seats, AreDistinctBelow, IsPermutation, vec_len, vec_capacity, filter_more}
use Rattle.dsr_ledger.proofs.SortedLemmas.{below_number, own_below}
use Rattle.dsr_ledger.proofs.LineLemmas.{party_of, party_lines_are}
use Rattle.dsr_ledger.proofs.view.sorted.parties_by_name.Goals.{then-has_part, else-has_part}
use Rattle.dsr_ledger.proofs.view.sorted.parties_by_name.Goals as goal

seat_below : (parts : List SeatPart) (n : ℕ) → AreDistinctBelow n (part_seats parts) → (i : ℕ) (p : SeatPart) → i < length parts
    → p ≡ get_or parts i p → p.seat < n
seat_below parts = below_number (λ (p : SeatPart). p.seat) parts

pub bounds-numbers-seat : goal.bounds-numbers-seat
bounds-numbers-seat c =
    let below = seat_below c.args.parts.now _ c.requires.seats c.loop-part.part-index c.part-item.result c.loop-part-test.true c.part-item.is in
    omega (arith, below, c.seat.ensures)

pub bounds-names-number : goal.bounds-names-number
bounds-names-number c =
    subst (λ s. get_or c.args.numbers.now s 0 < length c.args.names.now) (sym c.seat.ensures) (
    own_below c.args.numbers.now _ c.requires.numbers c.part-item.result.seat (
    seat_below c.args.parts.now _ c.requires.seats c.loop-part.part-index c.part-item.result c.loop-part-test.true c.part-item.is))

pub loop-part-preserved : goal.loop-part-preserved
loop-part-preserved c =
    let ps = c.args.names.now in let ns = c.args.numbers.now in let parts = c.args.parts.now in let i = c.loop-part.part-index in
    let p = c.part-item.result in let was = c.loop-part.invariant in let f = party_of ps ns parts in
    let ends : Bool → List SeatPart = λ b. filter (λ x. x.has_part) (take i parts) ++ cond b (p ∷ []) [] in
    let more : filter (λ x. x.has_part) (take (i + 1) parts) ≡ ends p.has_part =
    filter_more (λ (x : SeatPart). x.has_part) parts i p c.loop-part-test.true
    ∙ ap (λ y. filter (λ x. x.has_part) (take i parts) ++ cond y.has_part (y ∷ []) []) (sym c.part-item.is) in
    elim c.if-has_part.branch [
      | then-has_part w ↦
          let items = ap (λ v. v.items) w.listed-is ∙ w.push_reserved.ensures.items in
          let n = get_or ns p.seat 0 in let low = seat_below parts _ c.requires.seats i p c.loop-part-test.true c.part-item.is in
          let name = w.index-names-number.is ∙ ap (λ s. get_or ps (get_or ns s 0) w.index-names-number.result) w.seat.ensures
          ∙ get_or_default ps n w.index-names-number.result [] (own_below ns _ c.requires.numbers p.seat low) in
          let amount : to_z w128 (of_z w128 w.amount.result) ≡ p.amount = search rules in
          record {
            all = items ∙ (λ j. was.all j ++ record { party = name j; amount = amount j } ∷ [])
                ∙ sym (map-append f (filter (λ x. x.has_part) (take i parts)) (p ∷ [])) ∙ ap (map f) (sym (more ∙ ap ends (sym c.has_part.ensures ∙ w.if-has_part.true)));
            many = omega (arith, ap vec_len w.listed-is, w.push_reserved.ensures.len, was.many);
            room = ap vec_capacity w.listed-is ∙ w.push_reserved.ensures.capacity ∙ was.room;
          }
      | else-has_part w ↦
          record {
            all = ap (λ v. v.items) w.listed-is ∙ was.all ∙ ap (map f) (sym (append-nil _) ∙ sym (more ∙ ap ends (sym c.has_part.ensures ∙ w.if-has_part.false)));
            many = omega (arith, ap vec_len w.listed-is, was.many);
            room = ap vec_capacity w.listed-is ∙ was.room;
          }
    ]

pub returns-clause-listed : goal.returns-clause-listed
returns-clause-listed c = λ bs is.
    let ps = c.args.names.now in let ns = c.args.numbers.now in let parts = c.args.parts.now in let was = c.loop-part.listed.items in
    let all = c.loop-part.invariant.all ∙ ap (λ xs. map (party_of ps ns parts) (filter (λ p. p.has_part) xs))
    (take_all c.loop-part.part-index parts c.loop-part-test.false) in
    party_lines_are ps ns parts c.requires.distinct c.requires.numbers c.requires.seats c.sort_unstable_by.new.self.items bs
    (subst (λ xs. IsPermutation xs c.sort_unstable_by.new.self.items) all c.sort_unstable_by.ensures.permutation)
    (c.sort_unstable_by.ensures.sorted _ (ranks_by nat_list_cmp_total (λ (l : PartyLine). l.party)) (answers_always _ _ _ (λ f a r f' k. ap is_lt k.met)))
    is
