use Rattle.dsr_relay.proofs.Common.{◌≡◌, ◌+◌, [], ◌++◌, length, take, sym, ap, ◌∙◌, arith, TapView, tap_view, arrived}
use Rattle.dsr_relay.proofs.Taking.{takes_lot}
use Rattle.dsr_relay.proofs.tap.Tap.take_rest.Goals as goal

pub invariant_of-self : goal.invariant_of-self
invariant_of-self c =
    let t = c.self.inside in
    let taken = take t.count (arrived t) in
    let none = c.replace-batch.ensures.after ∙ c.none-none.ensures in
    let all = ap (λ l. taken ++ l) c.replace-batch.ensures.value ∙ c.self.invariant.whole in
    let next =
    takes_lot (arrived t) taken c.replace-batch.result _ _ _ c.last.view_is all
    (sym c.events.ensures ∙ c.in-Some.ensures.cases.0) c.self.invariant.orderly in
    record {
      seat = c.self.invariant.seat;
      knows = c.self.invariant.knows;
      few = omega (arith, ap length none);
      orderly = c.self.invariant.orderly;
      whole = ap (λ l. take (c.last.inside.place + 1) (arrived t) ++ l) none ∙ next.whole;
      count = next.count;
      ended = c.is_ended-self-inside.ensures ∙ next.ended;
    }

pub returns-clause-taken : goal.returns-clause-taken
returns-clause-taken c =
    let t = c.self.inside in
    let taken = take t.count (arrived t) in
    let none = c.replace-batch.ensures.after ∙ c.none-none.ensures in
    let all = ap (λ l. taken ++ l) c.replace-batch.ensures.value ∙ c.self.invariant.whole in
    let next =
    takes_lot (arrived t) taken c.replace-batch.result _ _ _ c.last.view_is all
    (sym c.events.ensures ∙ c.in-Some.ensures.cases.0) c.self.invariant.orderly in
    let after : tap_view (record t { held = c.replace-batch.new.dest; count = c.last.inside.place + 1; ended = c.is_ended-self-inside.result })
    ≡ record (tap_view t) { taken = taken ++ c.replace-batch.result; held = [] } =
    λ i. record { name = (tap_view t).name; taken = next.front i; held = none i } in
    after ∙ ap (λ (v : TapView). record v { taken = v.taken ++ c.replace-batch.result; held = [] }) c.self.view_is

pub returns-clause-orderly : goal.returns-clause-orderly
returns-clause-orderly c =
    let t = c.self.inside in
    let taken = take t.count (arrived t) in
    let all = ap (λ l. taken ++ l) c.replace-batch.ensures.value ∙ c.self.invariant.whole in
    (takes_lot (arrived t) taken c.replace-batch.result _ _ _ c.last.view_is all
    (sym c.events.ensures ∙ c.in-Some.ensures.cases.0) c.self.invariant.orderly).orderly
