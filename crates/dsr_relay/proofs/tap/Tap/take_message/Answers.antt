use Rattle.dsr_relay.proofs.Common.{◌≡◌, ◌+◌, [], ◌++◌, length, take, sym, ap, ◌∙◌, arith, common_steps, view, TapView, tap_view, arrived}
use Rattle.dsr_relay.proofs.Taking.{lot_next, takes_again, has_size}
use Rattle.dsr_relay.proofs.tap.Tap.take_message.Goals as goal

pub unreachable-requires : goal.unreachable-requires
unreachable-requires g c =
    let size = has_size (view c.self.inside.pass) (view c.take_next.new.pass) c.in_ok-batch.batch c.in_ok-batch.ensures.taken c.in_ok-batch.ensures.orderly.1 in
    omega (arith, size.0, ap length (sym c.events.ensures), c.in_default.ensures.cases)

pub invariant_of-self-2 : goal.invariant_of-self-2
invariant_of-self-2 g c =
    let t = c.self.inside in
    let none = ap (λ (v : TapView). v.held) c.self.view_is ∙ c.requires.none_held in
    let last = sym c.events.ensures ∙ c.in-Some.ensures.cases.0 in
    let next =
    lot_next (view t.pass) (view c.take_next.new.pass) c.in_ok-batch.batch t.count t.held _ _ _ c.last.view_is c.in_ok-batch.ensures.taken
    c.self.invariant.whole none last c.in_ok-batch.ensures.orderly.0 in
    record {
      seat = c.in_ok-batch.ensures.seat;
      knows = takes_again _ _ c.in_ok-batch.ensures.taken;
      few = c.self.invariant.few;
      orderly = c.in_ok-batch.ensures.orderly.0;
      whole = ap (λ l. take (c.last.inside.place + 1) (arrived (record t { pass = c.take_next.new.pass })) ++ l) none ∙ next.whole;
      count = next.count;
      ended = c.is_ended-self-inside.ensures ∙ next.ended;
    }

pub returns-clause-taken : goal.returns-clause-taken
returns-clause-taken g c =
    let t = c.self.inside in
    let none = ap (λ (v : TapView). v.held) c.self.view_is ∙ c.requires.none_held in
    let last = sym c.events.ensures ∙ c.in-Some.ensures.cases.0 in
    let next =
    lot_next (view t.pass) (view c.take_next.new.pass) c.in_ok-batch.batch t.count t.held _ _ _ c.last.view_is c.in_ok-batch.ensures.taken
    c.self.invariant.whole none last c.in_ok-batch.ensures.orderly.0 in
    let seat = c.in_ok-batch.ensures.seat in
    let was = c.self.invariant.seat in
    let front = next.front in
    let after : tap_view (record t { pass = c.take_next.new.pass; count = c.last.inside.place + 1; ended = c.is_ended-self-inside.result })
    ≡ record (tap_view t) { taken = take t.count (arrived t) ++ c.in_ok-batch.batch; held = [] } =
    λ i. record {
      name = record { of = record {}; table = (seat.0 ∙ sym was.0) i; key = (seat.1 ∙ sym was.1) i; capacity = (tap_view t).name.capacity };
      taken =
          front i;
      held = none i;
    } in
    after ∙ ap (λ (v : TapView). record v { taken = v.taken ++ c.in_ok-batch.batch; held = [] }) c.self.view_is

pub returns-clause-few : goal.returns-clause-few
returns-clause-few g c =
    let size = has_size (view c.self.inside.pass) (view c.take_next.new.pass) c.in_ok-batch.batch c.in_ok-batch.ensures.taken c.in_ok-batch.ensures.orderly.1 in
    size.1

pub returns-clause-orderly : goal.returns-clause-orderly
returns-clause-orderly g c =
    let t = c.self.inside in
    let none = ap (λ (v : TapView). v.held) c.self.view_is ∙ c.requires.none_held in
    let last = sym c.events.ensures ∙ c.in-Some.ensures.cases.0 in
    (lot_next (view t.pass) (view c.take_next.new.pass) c.in_ok-batch.batch t.count t.held _ _ _ c.last.view_is c.in_ok-batch.ensures.taken
    c.self.invariant.whole none last c.in_ok-batch.ensures.orderly.0).orderly

pub invariant_of-self : goal.invariant_of-self
invariant_of-self g c = grind (arith, common_steps)
