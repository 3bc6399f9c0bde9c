use Rattle.dsr_relay.proofs.Common.{◌≡◌, ◌+◌, [], ◌∷◌, ◌++◌, length, take, refl, sym, ap, ◌∙◌, arith, common_steps, view, has_ended, TapView, tap_view, arrived}
use Rattle.dsr_relay.proofs.Taking.{first_next, takes_again, has_size}
use Rattle.dsr_relay.proofs.tap.Tap.take_first.Goals as goal

pub unreachable-requires : goal.unreachable-requires
unreachable-requires g c =
    let size = has_size (view c.self.inside.pass) (view c.take_next.new.pass) c.in-Some.batch c.in-Some.ensures.taken c.in-Some.ensures.orderly.1 in
    omega (arith, size.0, ap length (c.in_default-take_first.ensures.0))

pub invariant_of-self-2 : goal.invariant_of-self-2
invariant_of-self-2 g c =
    let t = c.self.inside in
    let none = ap (λ (v : TapView). v.held) c.self.view_is ∙ c.requires.none_held in
    let first = c.in-Some-take_first.ensures in
    let next =
    first_next (view t.pass) (view c.take_next.new.pass) c.in-Some.batch t.count t.held c.in-Some.batch c.in-Some-take_first.event _ c.take_first.new.self
    c.event.view_is c.in-Some.ensures.taken c.self.invariant.whole none refl first c.in-Some.ensures.orderly.0 in
    let size = has_size (view t.pass) (view c.take_next.new.pass) c.in-Some.batch c.in-Some.ensures.taken c.in-Some.ensures.orderly.1 in
    record {
      seat = c.in-Some.ensures.seat;
      knows = takes_again _ _ c.in-Some.ensures.taken;
      few = omega (arith, size.1, ap length first);
      orderly = c.in-Some.ensures.orderly.0;
      whole = next.whole;
      count = next.count;
      ended = c.is_ended-self-inside.ensures ∙ next.ended (ap (λ (v : TapView). has_ended v.taken) c.self.view_is ∙ c.requires.going);
    }

pub returns-clause-taken : goal.returns-clause-taken
returns-clause-taken g c =
    let t = c.self.inside in
    let e = c.in-Some-take_first.event in
    let none = ap (λ (v : TapView). v.held) c.self.view_is ∙ c.requires.none_held in
    let next =
    first_next (view t.pass) (view c.take_next.new.pass) c.in-Some.batch t.count t.held c.in-Some.batch e _ c.take_first.new.self c.event.view_is
    c.in-Some.ensures.taken c.self.invariant.whole none refl c.in-Some-take_first.ensures c.in-Some.ensures.orderly.0 in
    let seat = c.in-Some.ensures.seat in
    let was = c.self.invariant.seat in
    let after : tap_view (record t {
      pass = c.take_next.new.pass;
      held = c.take_first.new.self;
      count = c.event.inside.place + 1;
      ended =
          c.is_ended-self-inside.result;
    }) ≡ record (tap_view t) { taken = take t.count (arrived t) ++ e ∷ []; held = c.take_first.new.self } =
    λ i. record {
      name = record { of = record {}; table = (seat.0 ∙ sym was.0) i; key = (seat.1 ∙ sym was.1) i; capacity = (tap_view t).name.capacity };
      taken =
          next.front i;
      held = c.take_first.new.self;
    } in
    after ∙ ap (λ (v : TapView). record v { taken = v.taken ++ e ∷ []; held = c.take_first.new.self }) c.self.view_is

pub returns-clause-place : goal.returns-clause-place
returns-clause-place g c =
    let t = c.self.inside in
    let none = ap (λ (v : TapView). v.held) c.self.view_is ∙ c.requires.none_held in
    let next =
    first_next (view t.pass) (view c.take_next.new.pass) c.in-Some.batch t.count t.held c.in-Some.batch c.in-Some-take_first.event _ c.take_first.new.self
    c.event.view_is c.in-Some.ensures.taken c.self.invariant.whole none refl c.in-Some-take_first.ensures c.in-Some.ensures.orderly.0 in
    next.place ∙ ap (λ (v : TapView). length v.taken) c.self.view_is

pub returns-clause-orderly : goal.returns-clause-orderly
returns-clause-orderly g c =
    let t = c.self.inside in
    let none = ap (λ (v : TapView). v.held) c.self.view_is ∙ c.requires.none_held in
    let next =
    first_next (view t.pass) (view c.take_next.new.pass) c.in-Some.batch t.count t.held c.in-Some.batch c.in-Some-take_first.event _ c.take_first.new.self
    c.event.view_is c.in-Some.ensures.taken c.self.invariant.whole none refl c.in-Some-take_first.ensures c.in-Some.ensures.orderly.0 in
    next.orderly

pub invariant_of-self : goal.invariant_of-self
invariant_of-self g c = grind (arith, common_steps)
