use Rattle.dsr_ledger.proofs.Common.{arith, common_steps, rules, ◌≡◌, ◌++◌, ◌∷◌, [], sym, ap, ◌∙◌, subst, nat_eq, map_push, AreIndexed, AreApart, part_in, part_seats, PartsGrow}
use Rattle.dsr_ledger.proofs.NumberedLemmas.{apart_more, same_number}
use Rattle.dsr_ledger.proofs.PartLemmas.{seat_of_part, parts_more}
use Rattle.dsr_ledger.proofs.ledger.parts.Parts.push.Goals as goal

pub invariant_of-self : goal.invariant_of-self
invariant_of-self c = rw c.reserve.ensures.items (record { apart = c.args.self.now.apart; indexed = c.args.self.now.indexed })

pub add-requires-clause-indexed : goal.add-requires-clause-indexed
add-requires-clause-indexed c = rw (c.as_slice.ensures, c.reserve.ensures.items) c.args.self.now.indexed

pub invariant_of-self-in-Break-branch-2 : goal.invariant_of-self-in-Break-branch-2
invariant_of-self-in-Break-branch-2 c =
    let indexed = subst (λ ps. AreIndexed (part_seats ps) c.add.new.self) (c.as_slice.ensures ∙ c.reserve.ensures.items) c.in_err-add.ensures.err in
    rw c.reserve.ensures.items (record { apart = c.args.self.now.apart; indexed = indexed })

pub invariant_of-self-2 : goal.invariant_of-self-2
invariant_of-self-2 c =
    let s = c.args.self.now in let ps = s.items.items in let p = c.new.result in let ns = part_seats ps in
    let items : c.push.new.self.items ≡ ps ++ p ∷ [] = search rules in let same : c.as_slice.result.now ≡ ps = search rules in
    let seats = ap part_seats items ∙ map_push seat_of_part ps p ∙ ap (λ n. ns ++ n ∷ []) c.new.ensures.seat in
    record {
      apart = subst AreApart (sym seats) (apart_more nat_eq same_number ns c.args.seat c.requires s.apart);
      indexed = subst (λ l. AreIndexed l c.add.new.self) (ap (λ qs. part_seats qs ++ c.args.seat ∷ []) same ∙ sym seats) c.in_ok-add.ensures.ok;
    }

pub returns-clause-ok : goal.returns-clause-ok
returns-clause-ok c =
    let ps = c.args.self.now.items.items in let p = c.new.result in let items : c.push.new.self.items ≡ ps ++ p ∷ [] = search rules in
    let none = ap (part_in ps) c.new.ensures.seat ∙ c.requires in
    subst (PartsGrow ps) (sym items) (parts_more ps p none c.new.ensures.owed)

pub returns-clause-seats : goal.returns-clause-seats
returns-clause-seats c = grind (arith, common_steps)
