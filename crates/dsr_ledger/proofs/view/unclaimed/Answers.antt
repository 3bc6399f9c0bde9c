use Rattle.dsr_ledger.proofs.Common.{common_steps, ◌≡◌, suc, ◌+◌, take, sym, ap, ◌∙◌, subst, to_z, of_z, arith, ℤ, ◌-ℤ◌, ◌+ℤ◌, w128, FitsSigned, ints, to_z-of_z, int_sum_by}
use Rattle.dsr_ledger.proofs.PartyLemmas.{left_fits, amount_fits, taken_more}
use Rattle.dsr_ledger.proofs.view.unclaimed.Goals as goal

pub overflow_sub-left : goal.overflow_sub-left
overflow_sub-left c =
    let a = c.args.amount in let ps = c.args.parties.now in let i = c.loop-line.line-index in let p = c.line-item.result in
    let whole : to_z w128 (of_z w128 a) ≡ a = to_z-of_z w128 a c.ranges.amount in
    let item : to_z w128 (of_z w128 c.line.inside.amount) ≡ p.amount =
    ap (λ x. to_z w128 (of_z w128 x.amount)) c.line.view_is ∙ to_z-of_z w128 p.amount (amount_fits ps i p a c.loop-line-test.true c.line-item.is c.requires) in
    let was : to_z w128 c.loop-line.left-bits ≡ a -ℤ int_sum_by (λ x. x.amount) (take i ps) =
    c.loop-line.invariant ∙ ap (λ z. z -ℤ int_sum_by (λ x. x.amount) (take i ps)) whole in
    subst (λ z. FitsSigned w128 (to_z w128 c.loop-line.left-bits -ℤ z)) (sym item)
    (left_fits a ps i p (to_z w128 c.loop-line.left-bits) was c.loop-line-test.true c.line-item.is c.requires)

take_off : (left whole taken all amount : ℤ) → left ≡ whole -ℤ taken → all ≡ taken +ℤ amount → left -ℤ amount ≡ whole -ℤ all
take_off left whole taken all amount h k = omega (arith, ints)

pub loop-line-preserved : goal.loop-line-preserved
loop-line-preserved c =
    let a = c.args.amount in let ps = c.args.parties.now in let i = c.loop-line.line-index in let p = c.line-item.result in
    let item : to_z w128 (of_z w128 c.line.inside.amount) ≡ p.amount =
    ap (λ x. to_z w128 (of_z w128 x.amount)) c.line.view_is ∙ to_z-of_z w128 p.amount (amount_fits ps i p a c.loop-line-test.true c.line-item.is c.requires) in
    let next : i + 1 ≡ suc i = omega arith in
    let more = ap (λ n. int_sum_by (λ x. x.amount) (take n ps)) next ∙ taken_more ps i p c.loop-line-test.true c.line-item.is in
    to_z-of_z w128 _ (overflow_sub-left c) ∙ ap (λ z. to_z w128 c.loop-line.left-bits -ℤ z) item ∙ take_off _ _ _ _ p.amount c.loop-line.invariant more

pub returns : goal.returns
returns c = grind (arith, common_steps)
