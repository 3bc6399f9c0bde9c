use Rattle.dsr_ledger.proofs.Common.{arith, common_steps, ◌≡◌, ◌<◌, refl, sym, ap, ◌∙◌, subst, length, length-map, slice_get_read, Line, IsWithNumber, place_in, part_seats, seat_numbers, AreSeatsBelow, line_keys, line_in, set, Ok, Err, OnOk, IfOk, Some, HaveParts, IsWide}
use Rattle.std.specs.Result.{result_and}
use Rattle.dsr_ledger.proofs.NumberedLemmas.{numbers_kept}
use Rattle.dsr_ledger.proofs.PartLemmas.{seat_of_part, parts_all}
use Rattle.dsr_ledger.proofs.RecordingLemmas.{all_there, key_of, grow_twice, grow_widened, line_put, written_there}
use Rattle.dsr_ledger.proofs.ledger.recording.Recording.line.Goals as goal

pub invariant_of-self : goal.invariant_of-self
invariant_of-self c =
    let r = c.line_of.new.self in let i = c.in_ok-number.number in let l = c.index_mut.result.now in
    let below : i < length r.lines.items = grind (arith, common_steps) in
    let shares = subst (λ s. AreSeatsBelow (length (seat_numbers s)) c.args.shares.now) (sym c.line_of.ensures.seats) c.requires in
    line_put r i l (record { sums = l.sums; parts = c.widen.new.parts }) below c.index_mut.ensures.value refl
    (c.widen.ensures.below (length (seat_numbers r.seats)) shares)

pub returns-clause-grows : goal.returns-clause-grows
returns-clause-grows c =
    let ls = c.line_of.new.self.lines.items in let i = c.in_ok-number.number in let below : i < length ls = grind (arith, common_steps) in
    grow_twice _ _ _ c.line_of.ensures.grows (
    grow_widened ls i c.index_mut.result.now c.widen.new.parts below c.index_mut.ensures.value c.widen.ensures.grows)

pub returns-clause-keys : goal.returns-clause-keys
returns-clause-keys c =
    subst (λ ks. IsWithNumber (line_keys c.args.self.now.lines.items) ks c.args.key)
    (sym (numbers_kept key_of _ c.in_ok-number.number c.index_mut.result.now _ c.index_mut.ensures.value refl))
    c.line_of.ensures.keys

pub returns-clause-there : goal.returns-clause-there
returns-clause-there c =
    let ls = c.line_of.new.self.lines.items in let i = c.in_ok-number.number in let l = c.index_mut.result.now in let ss = c.args.shares.now in
    let w : Line = record { sums = l.sums; parts = c.widen.new.parts } in let below : i < length ls = grind (arith, common_steps) in
    let at = ap (λ ks. place_in ks c.args.key) (numbers_kept key_of ls i l w c.index_mut.ensures.value refl) ∙ c.in_ok-number.ensures.there in
    rw c.and.ensures (
    elim c.widen.result as (λ r. OnOk r (HaveParts ss w.parts.items.items)
    → IfOk (result_and r (Ok i)) (λ j. (line_in (set ls i w) c.args.key ≡ Some j) × IsWide ss (set ls i w) j)) [
      | Ok _ ↦ λ wide. (at, record { line = w; there = written_there ls i w below; wide = wide })
      | Err _ ↦ λ _. tt
    ] c.widen.ensures.wide)

pub returns-then-len-clause-there : goal.returns-then-len-clause-there
returns-then-len-clause-there c =
    let r = c.line_of.new.self in let i = c.in_ok-number.number in let l = c.index.result.now in let seats = length (seat_numbers r.seats) in
    let below : i < length r.lines.items = grind (arith, common_steps) in let ps = l.parts.items.items in
    let at = slice_get_read r.lines.items (length r.lines.items) i l refl below c.index.ensures in
    let long : length (part_seats ps) ≡ seats = length-map ps seat_of_part ∙ sym c.len.ensures ∙ c.if-len.true ∙ c.len-2.ensures in
    let all = all_there seats (part_seats ps) l.parts.apart (r.within i l at) long in
    let shares = subst (λ s. AreSeatsBelow (length (seat_numbers s)) c.args.shares.now) (sym c.line_of.ensures.seats) c.requires in
    (c.in_ok-number.ensures.there, record { line = l; there = at; wide = parts_all ps c.args.shares.now seats all shares })
