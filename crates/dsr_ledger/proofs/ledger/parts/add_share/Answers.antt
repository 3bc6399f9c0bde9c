use Rattle.dsr_ledger.proofs.Common.{rules, ◌≡◌, sym, ap, ◌∙◌, get_or, set, to_z, of_z, Some, pos, ◌*ℤ◌, option_and_then, w128, int_div, bytes_eq, to_z-of_z, bytes_eq-Decides, place_in, place_by, nothing_owed, owed_at_place, owed_kept, owed_with, part_in, part_seats}
use Rattle.dsr_ledger.proofs.NumberedLemmas.{numbers_kept, read_changed}
use Rattle.dsr_ledger.proofs.PartLemmas.{seat_of_part, places_are_numbered_by}
use Rattle.dsr_ledger.proofs.ledger.parts.add_share.Goals as goal

pub returns-clause-seats : goal.returns-clause-seats
returns-clause-seats c =
    let p = c.index-parts-place.result in let is = c.index-parts-place.is in
    numbers_kept seat_of_part c.args.parts.now c.in-Some.place p c.add.new.self is (c.add.ensures.seat ∙ ap seat_of_part (sym is))

pub returns-clause-part : goal.returns-clause-part
returns-clause-part c = λ n seat party numbered at q.
    let ps = c.args.parts.now in let a = c.args.amount in let s = c.args.share.now in let i = c.in-Some.place in
    let x = int_div (a *ℤ pos s.share) (pos 1000000) in let found : part_in ps s.seat ≡ Some i = search rules in
    let p = c.index-parts-place.result in let is = c.index-parts-place.is in
    let units : to_z w128 (of_z w128 c.units.result) ≡ a = to_z-of_z w128 c.units.result (search rules) ∙ c.units.ensures.value in
    let share : to_z w128 (of_z w128 c.share_of.result) ≡ x =
    to_z-of_z w128 c.share_of.result (search rules) ∙ c.share_of.ensures ∙ ap (λ z. int_div (z *ℤ pos s.share) (pos 1000000)) units in
    let changed = c.add.ensures.owed ∙ ap (λ z. owed_with z (owed_kept (get_or ps i p))) share ∙ ap (λ o. owed_with x (owed_kept o)) (sym is) in
    ap (λ ns. owed_at_place (set ps i c.add.new.self) (option_and_then (place_in ns) (seat q)))
    (numbers_kept seat_of_part ps i p c.add.new.self is (c.add.ensures.seat ∙ ap seat_of_part (sym is)))
    ∙ read_changed bytes_eq bytes_eq-Decides owed_kept nothing_owed (owed_with x) (place_by seat (part_seats ps)) party ps i p c.add.new.self
    (places_are_numbered_by seat n ps numbered) (ap (option_and_then (part_in ps)) at ∙ found) is changed q
