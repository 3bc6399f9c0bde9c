use Rattle.dsr_ledger.proofs.Common.{arith, rules, ◌≡◌, length, map, nat_eq, take_all, length-map, ap, sym, ◌∙◌, Some, insert_key}
use Rattle.dsr_ledger.proofs.IndexLemmas.{goes_last, next_number}
use Rattle.dsr_ledger.proofs.NumberedLemmas.{number_at_place}
use Rattle.dsr_ledger.proofs.index.boxed.Goals as goal

pub loop-item-preserved : goal.loop-item-preserved
loop-item-preserved g c =
    let number = g.T.Numbered.number_of in let xs = c.args.items.now in let i = c.loop-item.item-index in let n = c.number.result in
    let at = number_at_place number xs i c.item-item.result c.loop-item-test.true c.item-item.is ∙ ap Some (sym c.number.ensures) in
    c.in_ok-insert.ensures.keys ∙ ap (λ ks. insert_key nat_eq ks n) c.loop-item.invariant ∙ next_number (map number xs) i n c.requires.apart at

pub returns : goal.returns
returns g c =
    let ns = map g.T.Numbered.number_of c.args.items.now in let n = c.args.number in let done = c.loop-item-test.false in
    let long : length ns ≡ length c.args.items.now = length-map c.args.items.now g.T.Numbered.number_of in
    let all : c.in_ok-new.field-0.value.keys ≡ insert_key nat_eq c.loop-item.numbers.keys n = search rules in
    all ∙ ap (λ ks. insert_key nat_eq ks n) (c.loop-item.invariant ∙ take_all c.loop-item.item-index ns (omega (arith, long, done)))
    ∙ goes_last ns n c.requires.absent
