use Rattle.dsr_ledger.proofs.Common.{rules, ◌≡◌, [], ◌++◌, sym, ap, ◌∙◌, subst, Some, map, on_ok_weaker, seat_at, AreSeated, shares_of, AreLined}
use Rattle.dsr_ledger.proofs.OpeningLemmas.{numbered_grows, same_keys}
use Rattle.dsr_ledger.proofs.SeatedLemmas.{seated_grows}
use Rattle.dsr_ledger.proofs.booking.Plan.fill.Goals as goal

pub returns-clause-planned : goal.returns-clause-planned
returns-clause-planned c = λ place us numbered named.
    let was = c.args.ledger.now in let is = c.plan_works.new.ledger in let isrc = c.args.isrc in let there = c.in_ok-recording.ensures.there in
    let seats = c.plan_works.ensures.keeps in let lines = c.plan_lines.ensures.keeps in let works = c.in_ok-plan_works.ensures.seated isrc there in
    let at = seats.recordings isrc ∙ there in let empty : c.clear.new.self.items ≡ [] = search rules in
    let items = works.items ∙ ap (λ l. l ++ works.more) empty in
    on_ok_weaker c.plan_lines.result (λ lined. record {
      recording_is = lines.recordings isrc ∙ at;
      seated = subst (λ ss. AreSeated (seat_at c.plan_lines.new.ledger isrc) ss (shares_of c.args.works.now)) (sym items) (
          seated_grows (seat_at c.plan_works.new.ledger isrc) (seat_at c.plan_lines.new.ledger isrc) (λ q i e. lines.seats isrc q ∙ e) works.more
          (shares_of c.args.works.now) works.seated);
      counted = named;
      lined = subst (λ ss. AreLined c.plan_lines.new.ledger place isrc ss us c.plan_lines.new.plan.items) c.as_slice.ensures.value lined;
    }) (c.plan_lines.ensures.lined isrc place us at
    (numbered_grows was is place c.args.summaries.now (same_keys was is (seats.keys ∙ c.recording.ensures.keys)) numbered)
    (named ∙ ap (map Some) (sym c.as_slice-2.ensures.value)))
