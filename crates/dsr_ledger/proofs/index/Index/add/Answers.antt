use Rattle.dsr_ledger.proofs.Common.{common_steps, rules, ◌≡◌, ◌≤◌, ◌<◌, ◌++◌, ◌∷◌, [], drop, length, map, nat_eq, sym, ap, ◌∙◌, subst, arith, None, drop-map, length-map, insert_key, Rise, AreIndexed}
use Rattle.dsr_ledger.proofs.IndexLemmas.{goes_last, few_more, more_rise}
use Rattle.dsr_ledger.proofs.index.Index.add.Goals.{then-items-lt-FEW-via-then-items-lt-FEW, then-items-lt-FEW-via-else-items-lt-FEW+then-is_above}
use Rattle.dsr_ledger.proofs.index.Index.add.Goals as goal

pub returns-in-Some-clause-ok : goal.returns-in-Some-clause-ok
returns-in-Some-clause-ok g c =
    let ns = map g.T.Numbered.number_of c.args.items.now in let n = c.args.number in let all : c.deref_mut.result.now.keys ≡ ns = search rules in
    c.in_ok-insert.ensures.keys ∙ ap (λ ks. insert_key nat_eq ks n) all ∙ goes_last ns n c.requires.absent

pub returns-then-items-lt-FEW-clause-ok : goal.returns-then-items-lt-FEW-clause-ok
returns-then-items-lt-FEW-clause-ok g c =
    let xs = c.args.items.now in let ns = map g.T.Numbered.number_of xs in let n = c.args.number in
    let long : length ns ≡ length xs = length-map xs g.T.Numbered.number_of in let none : c.args.self.now.numbers ≡ None = search rules in
    subst (λ o. AreIndexed (ns ++ n ∷ []) (record { numbers = o })) (sym none) (
    elim c.then-items-lt-FEW.branch as (λ _. Rise (drop 16 (ns ++ n ∷ []))) [
      | then-items-lt-FEW-via-then-items-lt-FEW w ↦
          let few : length xs < 16 = search rules in
          few_more ns n (omega (arith, long, few))
      | then-items-lt-FEW-via-else-items-lt-FEW+then-is_above w ↦
          let many : 16 ≤ length xs = search rules in
          let rise : Rise (drop 16 ns) = subst (λ o. AreIndexed ns (record { numbers = o })) none c.requires.indexed in
          let behind : map g.T.Numbered.number_of w.behind.result.now ≡ drop 16 ns =
          ap (map g.T.Numbered.number_of) w.behind.ensures ∙ sym (drop-map g.T.Numbered.number_of 16 xs) in
          more_rise ns n (omega (arith, long, many))
          (subst (λ ms. Rise (ms ++ n ∷ [])) behind (w.is_above.ensures w.if-is_above.true (subst Rise (sym behind) rise)))
    ])

pub returns-in_err-insert-clause-err : goal.returns-in_err-insert-clause-err
returns-in_err-insert-clause-err g c = grind (arith, common_steps)
