use Rattle.dsr_ledger.proofs.Common.{rules, ◌≡◌, cond, length, nat_eq, inr, refl, ap, ◌∙◌, None, Some, length-map, place_in, part_in, part_seats}
use Rattle.dsr_ledger.proofs.NumberedLemmas.{place_more, same_number}
use Rattle.dsr_ledger.proofs.PartLemmas.{seat_of_part}
use Rattle.dsr_ledger.proofs.RecordingLemmas.{below_with}
use Rattle.dsr_ledger.proofs.ledger.parts.Parts.place.Goals as goal

pub find-requires-clause-indexed : goal.find-requires-clause-indexed
find-requires-clause-indexed c = rw c.as_slice.ensures c.args.self.now.indexed

pub returns-clause-below : goal.returns-clause-below
returns-clause-below c = λ n less below.
    let ps = c.args.self.now.items.items in let none : part_in ps c.args.seat ≡ None = search rules in
    below_with (part_seats ps) (part_seats c.push.new.self.items.items) c.args.seat n (inr (none, c.in_ok-push.ensures.seats)) less below

pub returns-clause-there : goal.returns-clause-there
returns-clause-there c =
    let ps = c.args.self.now.items.items in let seat = c.args.seat in let none : part_in ps seat ≡ None = search rules in
    let long : length ps ≡ c.len-place.result = search rules in
    ap (λ ns. place_in ns seat) c.in_ok-push.ensures.seats ∙ place_more nat_eq same_number (part_seats ps) seat seat none
    ∙ ap (λ b. cond b (Some (length (part_seats ps))) (part_in ps seat)) ((same_number seat seat).1 refl) ∙ ap Some (length-map ps seat_of_part ∙ long)
