use Rattle.std.proofs.Common.{◌≡◌, ap, ◌∙◌, ◌++◌, ◌∷◌, [], codes, rules, to_z, of_z}
use Rattle.std.proofs.lemmas.Int.{to_z-of_z}
use Rattle.std.specs.Int.{w128}
use Rattle.dsr_statement.specs.meaning.Cells.{amount_cell}
use Rattle.dsr_sums.specs.meaning.Totals.{party_line}
use Rattle.dsr_sums.proofs.TextLemmas.{cell, line_put}
use Rattle.dsr_sums.proofs.text.put_party.Goals as goal

pub returns : goal.returns
unfolding party_line
returns c =
    let a = c.args.account.now in let s = c.args.sums.now in
    let m : to_z w128 (of_z w128 s.amount) ≡ s.amount = to_z-of_z w128 s.amount (search rules) in
    let e1 = cell _ _ _ _ _ c.in_ok-put_text.ensures c.in_ok-extend_from_slice.ensures.items c.as_str.ensures in
    let e2 = cell _ _ _ _ _ c.in_ok-put_text-2.ensures e1 c.as_str-2.ensures in
    let e3 = cell _ _ _ _ _ c.in_ok-put_amount.ensures e2 (ap amount_cell m) in
    c.in_ok-extend_from_slice-2.ensures.items ∙ ap (λ l. l ++ 10 ∷ []) e3 ∙ line_put c.args.out.now.items (codes "PARTY") (a.party ∷ a.currency ∷ amount_cell s.amount ∷ [])
