use Rattle.dsr_ledger.proofs.Common.{◌≡◌, ◌<◌, ◌+◌, ◌^◌, sum_by, unsigned_abs, List, rules, arith, refl, sym, ap, ◌∙◌, subst, length, to_z, of_z, w128, ◌-ℤ◌, int_sum_by, Booking, LedgerStands, at_key, key_under}
use Rattle.dsr_ledger.proofs.ViewLemmas.{all_given, one_given, owed_is, part_numbers, parts_fit, sums_fit, whole_is}
use Rattle.dsr_ledger.proofs.view.LedgerView.next.Goals as goal

pub returns-in_err-found-clause-all : goal.returns-in_err-found-clause-all
returns-in_err-found-clause-all c = λ all given h.
    let done : given ≡ all = all_given c.args.self.now all given h (c.in_err-found.ensures.all h.keys h.have).1 in
    search rules

pub parties_by_name-requires-clause-seats : goal.parties_by_name-requires-clause-seats
parties_by_name-requires-clause-seats c =
    let f = c.in_ok-found.found in
    rw (c.as_slice-numbers.ensures.value, c.as_slice.ensures.value)
    (part_numbers c.args.self.now.books.now f.isrc.now f.recording.now f.key.now f.line.now c.in_ok-found.ensures.booked)

pub parties_by_name-requires-clause-room : goal.parties_by_name-requires-clause-room
parties_by_name-requires-clause-room c =
    let f = c.in_ok-found.found in
    let fit = parts_fit c.args.self.now.books.now f.isrc.now f.recording.now f.key.now f.line.now c.in_ok-found.ensures.booked in
    omega (arith, fit, ap length c.as_slice.ensures.value, ap (λ b. length b.now.parties.keys) c.next_line.ensures.books, c.next_line.new.self.parties_fit)

pub unclaimed-requires : goal.unclaimed-requires
unclaimed-requires c =
    let f = c.in_ok-found.found in let books = c.args.self.now.books.now in
    let names = c.as_slice-names.ensures.keys ∙ ap (λ b. b.now.parties.keys) c.next_line.ensures.books in
    let same : to_z w128 (of_z w128 c.amount-amount.result) ≡ f.line.now.sums.amount = search rules in
    let parties = λ (bs : List Booking) (stand : LedgerStands books bs).
    c.as_slice-2.ensures.value ∙ c.parties_by_name.ensures.listed (at_key (key_under f.isrc.now f.key.now) bs)
    (owed_is books f.isrc.now f.recording.now f.key.now f.line.now c.in_ok-found.ensures.booked _ _ _
    c.as_slice.ensures.value names c.as_slice-numbers.ensures.value bs stand) in
    subst (λ n. n < 2 ^ 127) (λ i. unsigned_abs (sym same i) + sum_by (λ p. unsigned_abs p.amount) c.as_slice-2.result.now)
    (sums_fit books f.isrc.now f.recording.now f.key.now f.line.now c.in_ok-found.ensures.booked c.as_slice-2.result.now parties c.args.self.now.small)

pub returns-clause-line : goal.returns-clause-line
returns-clause-line c = λ all given h.
    let f = c.in_ok-found.found in let books = c.args.self.now.books.now in let is = c.in_ok-found.ensures.booked in
    let amount : to_z w128 (of_z w128 c.amount-amount.result) ≡ f.line.now.sums.amount = search rules in
    let usages : to_z w128 (of_z w128 c.usages.result) ≡ f.line.now.sums.usages = search rules in
    let left : to_z w128 (of_z w128 c.unclaimed.result) ≡ c.unclaimed.result = search rules in
    let names = c.as_slice-names.ensures.keys ∙ ap (λ b. b.now.parties.keys) c.next_line.ensures.books in
    let have = c.in_ok-found.ensures.line h.keys h.have in
    one_given books f.isrc.now f.recording.now f.key.now f.line.now is c.args.self.now _ all given _ h refl c.next_line.ensures.books
    (record { before = have.before; at_hand = have.at_hand }) (λ bs stand.
    whole_is books f.isrc.now f.recording.now f.key.now f.line.now is bs stand _
    (c.parties_by_name.ensures.listed (at_key (key_under f.isrc.now f.key.now) bs)
    (owed_is books f.isrc.now f.recording.now f.key.now f.line.now is _ _ _ c.as_slice.ensures.value names c.as_slice-numbers.ensures.value bs stand))
    (λ i. record {
      isrc = f.isrc.now;
      territory = f.key.now.territory;
      use_type = f.key.now.use_type;
      currency = f.key.now.currency;
      usages = usages i;
      amount = amount i;
      parties = c.parties_by_name.new.listed.items;
      unclaimed = (left ∙ c.unclaimed.ensures ∙ (λ j. amount j -ℤ int_sum_by (λ p. p.amount) (c.as_slice-2.ensures.value j))) i;
    }))
