use Rattle.dsr_ledger.proofs.Common.{arith, common_steps, rules, ◌≡◌, ◌++◌, ◌∷◌, [], ap, sym, subst, ◌∙◌, length, nat_eq, None, Some, map_push, AreIndexed, AreApart, AreBelow, part_seats, seat_numbers, line_in, line_keys, AreWithin, LinesGrow}
use Rattle.dsr_ledger.proofs.NumberedLemmas.{item_there, apart_more, same_number}
use Rattle.dsr_ledger.proofs.RecordingLemmas.{key_of, grow_pushed, within_pushed}
use Rattle.dsr_ledger.proofs.ledger.recording.Recording.add_line.Goals as goal

pub invariant_of-self : goal.invariant_of-self
invariant_of-self c =
    let r = c.args.self.now in
    rw c.reserve.ensures.items (record { apart = r.apart; indexed = r.indexed; within = r.within })

pub add-requires-clause-indexed : goal.add-requires-clause-indexed
add-requires-clause-indexed c = rw (c.as_slice.ensures.value, c.reserve.ensures.items) c.args.self.now.indexed

pub invariant_of-self-in-Break-branch-2 : goal.invariant_of-self-in-Break-branch-2
invariant_of-self-in-Break-branch-2 c =
    let r = c.args.self.now in let there : c.as_slice.result.now ≡ r.lines.items = search rules in
    let indexed = subst (λ ls. AreIndexed (line_keys ls) c.add.new.self) there c.in_err-add.ensures.err in
    rw c.reserve.ensures.items (record { apart = r.apart; indexed = indexed; within = r.within })

pub invariant_of-self-2 : goal.invariant_of-self-2
invariant_of-self-2 c =
    let r = c.args.self.now in let ls = r.lines.items in let l = c.new.result in let ks = line_keys ls in let seats = length (seat_numbers r.seats) in
    let items : c.push.new.self.items ≡ ls ++ l ∷ [] = search rules in let same : c.as_slice.result.now ≡ ls = search rules in
    let keys = ap line_keys items ∙ map_push key_of ls l ∙ ap (λ n. ks ++ n ∷ []) c.new.ensures.key in
    let below = subst (λ ps. AreBelow seats (part_seats ps)) (sym c.new.ensures.parts) (λ p i e. absurd (cc)) in
    record {
      apart = subst AreApart (sym keys) (apart_more nat_eq same_number ks c.args.key c.requires r.apart);
      indexed = subst (λ ns. AreIndexed ns c.add.new.self) (ap (λ xs. line_keys xs ++ c.args.key ∷ []) same ∙ sym keys) c.in_ok-add.ensures.ok;
      within = subst (AreWithin seats) (sym items) (within_pushed seats ls l r.within below);
    }

pub returns-clause-grows : goal.returns-clause-grows
returns-clause-grows c =
    let ls = c.args.self.now.lines.items in let l = c.new.result in let none : line_in ls l.sums.key ≡ None = ap (line_in ls) c.new.ensures.key ∙ c.requires in
    let items : c.push.new.self.items ≡ ls ++ l ∷ [] = search rules in
    subst (LinesGrow ls) (sym items) (grow_pushed ls l none c.new.ensures.tally)

pub returns-clause-there : goal.returns-clause-there
returns-clause-there c =
    let ls = c.args.self.now.lines.items in let l = c.new.result in let none : line_in ls l.sums.key ≡ None = ap (line_in ls) c.new.ensures.key ∙ c.requires in
    let items : c.push.new.self.items ≡ ls ++ l ∷ [] = search rules in let long : length ls ≡ c.len-number.result = search rules in
    ap (line_in c.push.new.self.items) (sym c.new.ensures.key) ∙ ap (λ xs. line_in xs l.sums.key) items ∙ item_there key_of ls l none ∙ ap Some long

pub returns-in_err-reserve-clause-grows : goal.returns-in_err-reserve-clause-grows
returns-in_err-reserve-clause-grows c = grind (arith, common_steps)

pub returns-in_err-push-clause-grows : goal.returns-in_err-push-clause-grows
returns-in_err-push-clause-grows c = grind (arith, common_steps)

pub returns-clause-keys : goal.returns-clause-keys
returns-clause-keys c = grind (arith, common_steps)
