use Rattle.std.proofs.Common.{◌≡◌, ap, ◌∙◌, ◌++◌, ◌∷◌, [], codes, rules, to_z, of_z}
use Rattle.std.proofs.lemmas.Int.{to_z-of_z}
use Rattle.std.specs.Fmt.{signed_decimal}
use Rattle.std.specs.Int.{w128}
use Rattle.dsr_statement.specs.meaning.Cells.{amount_cell}
use Rattle.dsr_sums.specs.meaning.Totals.{market_line}
use Rattle.dsr_sums.proofs.TextLemmas.{cell, line_put}
use Rattle.dsr_sums.proofs.text.put_market.Goals as goal

pub returns : goal.returns
unfolding market_line
returns c =
    let a = c.args.account.now in let s = c.args.sums.now in
    let u : to_z w128 (of_z w128 s.usages) ≡ s.usages = to_z-of_z w128 s.usages (search rules) in
    let m : to_z w128 (of_z w128 s.amount) ≡ s.amount = to_z-of_z w128 s.amount (search rules) in
    let e1 = cell _ _ _ _ _ c.in_ok-put_text.ensures c.in_ok-extend_from_slice.ensures.items c.as_str.ensures in
    let e2 = cell _ _ _ _ _ c.in_ok-put_text-2.ensures e1 c.as_str-2.ensures in
    let e3 = cell _ _ _ _ _ c.in_ok-put_text-3.ensures e2 c.as_str-3.ensures in
    let e4 = cell _ _ _ _ _ c.in_ok-put_signed.ensures e3 (ap signed_decimal u) in
    let e5 = cell _ _ _ _ _ c.in_ok-put_amount.ensures e4 (ap amount_cell m) in
    c.in_ok-extend_from_slice-2.ensures.items ∙ ap (λ l. l ++ 10 ∷ []) e5 ∙ line_put c.args.out.now.items (codes "MARKET") (a.territory ∷ a.use_type ∷ a.currency ∷ signed_decimal s.usages ∷ amount_cell s.amount ∷ [])
