use Rattle.dsr_ledger.proofs.Common.{◌≡◌, ℕ, List, Bor, Recording, ◌+◌, ◌<◌, sum_by, get_or, IsBookedLine, ◌≤◌, ◌∷◌, rules, arith, common_steps, length, refl, subst, ap, Some, filter, AreListed, length-map, lent, line_for, summary_key_cmp, sum_by-cons, into_iter_items}
use Rattle.dsr_ledger.proofs.SortedLemmas.{few_below}
use Rattle.dsr_ledger.proofs.ViewLemmas.{its_numbers, lines_laid, line_at_hand}
use Rattle.dsr_ledger.proofs.view.LedgerView.next_line.Goals as goal

abbrev most : Bor (List ℕ) × Bor Recording → ℕ
most x = 1 + length x.1.now.lines.items

pub lines_by_key-requires-clause-numbers : goal.lines_by_key-requires-clause-numbers
lines_by_key-requires-clause-numbers c =
    let items : into_iter_items c.loop-self.self.recordings ≡ (c.in_ok-isrc.isrc, c.in_ok-isrc.recording) ∷ into_iter_items c.next.new.self = search rules in
    rw (c.as_slice-keys.ensures.keys, c.as_slice.ensures.value)
    (its_numbers c.loop-self.self c.requires.0 (c.loop-self.invariant.have c.requires.0 c.requires.1) _ _ items)

pub lines_by_key-requires-clause-room : goal.lines_by_key-requires-clause-room
lines_by_key-requires-clause-room c =
    let items : into_iter_items c.loop-self.self.recordings ≡ (c.in_ok-isrc.isrc, c.in_ok-isrc.recording) ∷ into_iter_items c.next.new.self = search rules in
    let few = few_below _ _ (its_numbers c.loop-self.self c.requires.0 (c.loop-self.invariant.have c.requires.0 c.requires.1) _ _ items) in
    let r = c.in_ok-isrc.recording.now in
    omega (arith, few, length-map r.lines.items (λ l. l.sums.key), ap length c.as_slice.ensures.value, c.loop-self.self.lines_fit)

pub loop-self-preserved : goal.loop-self-preserved
loop-self-preserved c =
    let from = c.loop-self.self in let r = c.in_ok-isrc.recording.now in
    let items : into_iter_items from.recordings ≡ (c.in_ok-isrc.isrc, c.in_ok-isrc.recording) ∷ into_iter_items c.next.new.self = search rules in
    let past : length from.lines.items ≤ from.given = grind (arith, common_steps) in
    let listed : AreListed summary_key_cmp (line_for from.books.now.summary_keys.keys (filter (λ l. l.sums.is_booked) r.lines.items))
    (lent c.lines_by_key.new.listed.items) =
    subst (λ (X : Type 0). X) (λ i. AreListed summary_key_cmp
    (line_for (c.as_slice-keys.ensures.keys i) (filter (λ l. l.sums.is_booked) (c.as_slice.ensures.value i)))
    (lent c.lines_by_key.new.listed.items)) c.lines_by_key.ensures.listed in
    record {
      books = c.loop-self.invariant.books;
      have = λ keys h. lines_laid from keys (c.loop-self.invariant.have keys h) _ (c.in_ok-isrc.isrc, c.in_ok-isrc.recording) past items refl refl refl listed;
      left = omega (
        arith,
        c.loop-self.invariant.left,
        ap (sum_by most) items,
        sum_by-cons most (c.in_ok-isrc.isrc, c.in_ok-isrc.recording) (into_iter_items c.next.new.self),
        c.lines_by_key.ensures.few,
        ap length c.as_slice.ensures.value,
      );
    }

pub returns-clause-booked : goal.returns-clause-booked
returns-clause-booked c =
    let from = c.loop-self.self in let x : Bor (List ℕ) × Bor Recording = (c.in_ok-isrc-2.isrc, c.in_ok-isrc-2.recording) in let e = c.index.result.now in
    let below : from.given < length from.lines.items = grind (arith, common_steps) in let hand : from.at_hand ≡ Some x = search rules in
    let is : e ≡ get_or from.lines.items from.given e = grind (arith, common_steps) in
    subst (λ b. IsBookedLine b.now x.0.now x.1.now e.0.now e.1.now) c.loop-self.invariant.books
    (line_at_hand from c.requires.0 (c.loop-self.invariant.have c.requires.0 c.requires.1) x e hand below is)
