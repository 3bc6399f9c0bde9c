use Rattle.dsr_ledger.proofs.Common.{arith, common_steps, rules, ◌≡◌, ◌++◌, ◌∷◌, [], sym, ap, ◌∙◌, subst, nat_eq, map-id, AreIndexed, AreApart}
use Rattle.dsr_ledger.proofs.NumberedLemmas.{apart_more, same_number}
use Rattle.dsr_ledger.proofs.ledger.seats.Seats.add.Goals as goal

pub invariant_of-self : goal.invariant_of-self
invariant_of-self c = rw c.reserve.ensures.items (record { apart = c.args.self.now.apart; indexed = c.args.self.now.indexed })

pub add-requires-clause-indexed : goal.add-requires-clause-indexed
add-requires-clause-indexed c = rw (map-id c.as_slice.result.now, c.as_slice.ensures, c.reserve.ensures.items) c.args.self.now.indexed

pub invariant_of-self-in-Break-branch-2 : goal.invariant_of-self-in-Break-branch-2
invariant_of-self-in-Break-branch-2 c =
    let same = map-id c.as_slice.result.now ∙ c.as_slice.ensures ∙ c.reserve.ensures.items in
    rw c.reserve.ensures.items (record { apart = c.args.self.now.apart; indexed = subst (λ ns. AreIndexed ns c.add.new.self) same c.in_err-add.ensures.err })

pub invariant_of-self-2 : goal.invariant_of-self-2
invariant_of-self-2 c =
    let s = c.args.self.now in let ns = s.numbers.items in let n = c.args.party in let items : c.push.new.self.items ≡ ns ++ n ∷ [] = search rules in
    let same : c.as_slice.result.now ≡ ns = search rules in
    record {
      apart = subst AreApart (sym items) (apart_more nat_eq same_number ns n c.requires s.apart);
      indexed = subst (λ l. AreIndexed l c.add.new.self) (ap (λ l. l ++ n ∷ []) (map-id c.as_slice.result.now ∙ same) ∙ sym items) c.in_ok-add.ensures.ok;
    }

pub add-requires-clause-apart : goal.add-requires-clause-apart
add-requires-clause-apart c = grind (arith, common_steps)

pub add-requires-clause-absent : goal.add-requires-clause-absent
add-requires-clause-absent c = grind (arith, common_steps)
