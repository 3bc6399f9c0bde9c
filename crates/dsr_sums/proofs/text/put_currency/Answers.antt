use Rattle.std.proofs.Common.{◌≡◌, ap, ◌∙◌, ◌++◌, ◌∷◌, [], codes, rules, to_z, of_z}
use Rattle.std.proofs.lemmas.Int.{to_z-of_z}
use Rattle.std.specs.Fmt.{signed_decimal}
use Rattle.std.specs.Int.{w128}
use Rattle.dsr_statement.specs.meaning.Cells.{amount_cell}
use Rattle.dsr_sums.specs.meaning.Totals.{currency_line}
use Rattle.dsr_sums.proofs.TextLemmas.{cell, line_put}
use Rattle.dsr_sums.proofs.text.put_currency.Goals as goal

pub returns : goal.returns
unfolding currency_line
returns c =
    let a = c.args.account.now in let s = c.args.sums.now in
    let u : to_z w128 (of_z w128 s.usages) ≡ s.usages = to_z-of_z w128 s.usages (search rules) in
    let m : to_z w128 (of_z w128 s.amount) ≡ s.amount = to_z-of_z w128 s.amount (search rules) in
    let k : to_z w128 (of_z w128 s.claimed) ≡ s.claimed = to_z-of_z w128 s.claimed (search rules) in
    let n : to_z w128 (of_z w128 s.unclaimed) ≡ s.unclaimed = to_z-of_z w128 s.unclaimed (search rules) in
    let e1 = cell _ _ _ _ _ c.in_ok-put_text.ensures c.in_ok-extend_from_slice.ensures.items c.as_str.ensures in
    let e2 = cell _ _ _ _ _ c.in_ok-put_signed.ensures e1 (ap signed_decimal u) in
    let e3 = cell _ _ _ _ _ c.in_ok-put_amount.ensures e2 (ap amount_cell m) in
    let e4 = cell _ _ _ _ _ c.in_ok-put_amount-2.ensures e3 (ap amount_cell k) in
    let e5 = cell _ _ _ _ _ c.in_ok-put_amount-3.ensures e4 (ap amount_cell n) in
    c.in_ok-extend_from_slice-2.ensures.items ∙ ap (λ l. l ++ 10 ∷ []) e5 ∙ line_put c.args.out.now.items (codes "CURRENCY") (a.currency ∷ signed_decimal s.usages ∷ amount_cell s.amount ∷ amount_cell s.claimed ∷ amount_cell s.unclaimed ∷ [])
