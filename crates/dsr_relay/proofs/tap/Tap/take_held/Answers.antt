use Rattle.dsr_relay.proofs.Common.{◌≡◌, ◌+◌, [], ◌∷◌, ◌++◌, length, take, sym, ap, ◌∙◌, arith, has_ended, TapView, tap_view, arrived}
use Rattle.dsr_relay.proofs.Taking.{takes_next}
use Rattle.dsr_relay.proofs.tap.Tap.take_held.Goals as goal

pub invariant_of-self-2 : goal.invariant_of-self-2
invariant_of-self-2 c =
    let t = c.self.inside in
    let taken = take t.count (arrived t) in
    let was = c.in_ok-event.ensures in
    let next =
    takes_next (arrived t) taken c.take_first.new.self c.in_ok-event.event _ c.event.view_is
    (ap (λ l. taken ++ l) (sym was) ∙ c.self.invariant.whole) c.self.invariant.orderly in
    record {
      seat = c.self.invariant.seat;
      knows = c.self.invariant.knows;
      few = omega (arith, ap length was, c.self.invariant.few);
      orderly = c.self.invariant.orderly;
      whole = next.whole;
      count = next.count;
      ended = c.is_ended-self-inside.ensures ∙ next.ended (ap (λ (v : TapView). has_ended v.taken) c.self.view_is ∙ c.requires);
    }

pub returns-clause-taken : goal.returns-clause-taken
returns-clause-taken c =
    let t = c.self.inside in
    let taken = take t.count (arrived t) in
    let e = c.in_ok-event.event in
    let next =
    takes_next (arrived t) taken c.take_first.new.self e _ c.event.view_is
    (ap (λ l. taken ++ l) (sym c.in_ok-event.ensures) ∙ c.self.invariant.whole) c.self.invariant.orderly in
    let view : tap_view (record t { held = c.take_first.new.self; count = c.event.inside.place + 1; ended = c.is_ended-self-inside.result })
    ≡ record (tap_view t) { taken = taken ++ e ∷ []; held = c.take_first.new.self } =
    λ i. record { name = (tap_view t).name; taken = next.front i; held = c.take_first.new.self } in
    view ∙ ap (λ (v : TapView). record v { taken = v.taken ++ e ∷ []; held = c.take_first.new.self }) c.self.view_is

pub returns-clause-place : goal.returns-clause-place
returns-clause-place c =
    let t = c.self.inside in
    let taken = take t.count (arrived t) in
    let next =
    takes_next (arrived t) taken c.take_first.new.self c.in_ok-event.event _ c.event.view_is
    (ap (λ l. taken ++ l) (sym c.in_ok-event.ensures) ∙ c.self.invariant.whole) c.self.invariant.orderly in
    next.place ∙ ap (λ (v : TapView). length v.taken) c.self.view_is

pub returns-clause-orderly : goal.returns-clause-orderly
returns-clause-orderly c =
    let t = c.self.inside in
    let taken = take t.count (arrived t) in
    (takes_next (arrived t) taken c.take_first.new.self c.in_ok-event.event _ c.event.view_is
    (ap (λ l. taken ++ l) (sym c.in_ok-event.ensures) ∙ c.self.invariant.whole) c.self.invariant.orderly).orderly
