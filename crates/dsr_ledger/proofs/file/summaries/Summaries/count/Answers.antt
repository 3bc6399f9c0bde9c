use Rattle.dsr_ledger.proofs.Common.{cond, ap, ◌∙◌, option_map, bytes_eq, nat_list_eq_equiv, bytes_eq-Decides, keys-with_value_at, state_at, state_plus, position}
use Rattle.dsr_ledger.proofs.IndexMapLemmas.{key_is, value_here, changed}
use Rattle.dsr_ledger.proofs.StateLemmas.{counted}
use Rattle.dsr_ledger.proofs.file.summaries.Summaries.count.Goals as goal

pub add-requires : goal.add-requires
add-requires c =
    let m = c.args.self.now.states in let e = c.pair_mut-state.ensures in let v = c.pair_mut-state.result.1.now in
    c.requires.fits v (
    value_here bytes_eq bytes_eq-Decides nat_list_eq_equiv m c.args.number _ v e.unique e.value c.args.usage.now.summary_id c.requires.there)

pub returns-clause-index : goal.returns-clause-index
returns-clause-index c = λ q. ap (position (bytes_eq q)) (keys-with_value_at c.args.self.now.states c.args.number _)

pub returns-clause-states : goal.returns-clause-states
returns-clause-states c = λ q.
    let m = c.args.self.now.states in let e = c.pair_mut-state.ensures in let v = c.pair_mut-state.result.1.now in let u = c.args.usage.now in
    let s = state_at c.args.self.now q in let sums = c.add.ensures in
    changed bytes_eq bytes_eq-Decides nat_list_eq_equiv m c.args.number _ v e.unique e.value (state_plus u) (record { key = v.key; sums = c.add.new.self })
    (λ i. record { key = v.key; sums = record { usages = sums.usages i; amount = sums.amount i } }) q
    ∙ ap (λ k. cond (bytes_eq k q) (option_map (state_plus u) s) s) (key_is bytes_eq bytes_eq-Decides m c.args.number _ v e.value u.summary_id c.requires.there)
    ∙ counted q u s
