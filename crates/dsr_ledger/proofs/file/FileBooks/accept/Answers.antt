use Rattle.dsr_ledger.proofs.Common.{◌≡◌, ◌≤◌, ◌+◌, ◌*◌, index_at, append-nil, length, refl, sym, ap, ◌∙◌, subst, arith, option_map, AllByRecursion, summary_key_named, usage_bookings, block_bookings, summaries_of, IsInRange, tally_plus, key_tally, state_at, state_with, IsPlanned}
use Rattle.dsr_ledger.proofs.TallyLemmas.{fewer_sums}
use Rattle.dsr_ledger.proofs.SeatedLemmas.{values_long}
use Rattle.dsr_ledger.proofs.file.FileBooks.accept.Goals as goal

pub add_usages-requires-clause-planned : goal.add_usages-requires-clause-planned
add_usages-requires-clause-planned c =
    let usages : c.as_slice-usages.result.now ≡ c.args.block.now.usages = c.as_slice-usages.ensures ∙ ap (λ b. b.usages) c.block.view_is in
    let works : c.as_slice-works.result.now ≡ c.args.block.now.works = c.as_slice-works.ensures ∙ ap (λ b. b.works) c.block.view_is in
    let place = summary_key_named (summaries_of c.args.self.now.opening) in
    let planned = c.in_ok-fill.ensures.planned place c.args.block.now.usages c.requires.numbered c.requires.found in
    (c.args.isrc, c.as_slice-works.result.now, place, rw usages planned, rw works c.requires.shares)

pub add_usages-requires-clause-spare : goal.add_usages-requires-clause-spare
add_usages-requires-clause-spare c =
    let usages : c.as_slice-usages.result.now ≡ c.args.block.now.usages = c.as_slice-usages.ensures ∙ ap (λ b. b.usages) c.block.view_is in
    let place = summary_key_named (summaries_of c.args.self.now.opening) in let us = c.args.block.now.usages in let plan = c.fill.new.self in
    let counted = (c.in_ok-fill.ensures.planned place us c.requires.numbered c.requires.found).counted in
    let long = ap length usages ∙ values_long (λ u. index_at c.args.self.now.summaries u.summary_id) us plan.summaries.items counted in
    subst (λ n. n * (2 + length plan.shares.items) ≤ c.reserve.new.spares) (sym long) c.in_ok-reserve.ensures

pub add_usages-requires-clause-summaries_fit : goal.add_usages-requires-clause-summaries_fit
add_usages-requires-clause-summaries_fit c = λ id x at.
    let room = c.block.invariant in let long = ap length c.as_slice-usages.ensures in
    fewer_sums 63 (length c.as_slice-usages.result.now) x.sums (omega arith) (c.requires.summaries_fit id x at)

pub returns-clause-ok : goal.returns-clause-ok
unfolding block_bookings
returns-clause-ok c =
    let usages : c.as_slice-usages.result.now ≡ c.args.block.now.usages = c.as_slice-usages.ensures ∙ ap (λ b. b.usages) c.block.view_is in
    let works : c.as_slice-works.result.now ≡ c.args.block.now.works = c.as_slice-works.ensures ∙ ap (λ b. b.works) c.block.view_is in
    let place = summary_key_named (summaries_of c.args.self.now.opening) in
    let planned =
    subst (λ us. IsPlanned c.fill.new.ledger c.args.self.now.summaries place c.args.isrc c.as_slice-works.result.now us c.fill.new.self) (sym usages)
    (c.in_ok-fill.ensures.planned place c.args.block.now.usages c.requires.numbered c.requires.found) in
    let room = c.block.invariant in let long = ap length c.as_slice-usages.ensures in let few : length c.as_slice-usages.result.now ≤ 63 = omega arith in
    record {
      place = refl;
      opening = refl;
      standing = refl;
      blocks = refl;
      summaries = λ id. c.add_usages.ensures.states id ∙ λ i. option_map (state_with id (usages i)) (state_at c.args.self.now.summaries id);
      rejects = sym (append-nil c.args.self.now.rejects.items);
      outcome = refl;
      tallies = λ q. c.add_usages.ensures.tallies c.args.isrc c.as_slice-works.result.now place planned q
          ∙ λ i. tally_plus (c.fill.ensures.tallies q i) (key_tally (usage_bookings place (c.requires.recording i) (works i) (usages i)) q);
      range = record { few = subst (λ us. length us ≤ 63) usages few; range = subst (AllByRecursion IsInRange) usages c.add_usages.ensures.range };
    }
