use Rattle.dsr_ledger.proofs.Common.{◌≡◌, ◌<◌, get_or, ap, sym, ◌∙◌, length, rules, Some}
use Rattle.dsr_ledger.proofs.NumberedLemmas.{number_at_place}
use Rattle.dsr_ledger.proofs.index.Index.find.Goals as goal

pub returns-then-number : goal.returns-then-number
returns-then-number g c =
    let number = g.T.Numbered.number_of in let xs = c.args.items.now in let x = c.in-Some.item.now in let i = c.args.hint in
    let below : i < length xs = search rules in
    let at : x ≡ get_or xs i x = search rules in let same : number x ≡ c.args.number = search rules in
    sym (c.requires.apart i c.args.number (number_at_place number xs i x below at ∙ ap Some same))
