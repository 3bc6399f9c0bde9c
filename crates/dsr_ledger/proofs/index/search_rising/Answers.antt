use Rattle.dsr_ledger.proofs.Common.{rules, ◌∙◌, answers_always}
use Rattle.dsr_ledger.proofs.IndexLemmas.{searched}
use Rattle.dsr_ledger.proofs.index.search_rising.Goals as goal

pub returns : goal.returns
returns g c =
    let facts = c.binary_search_by_key.ensures in let number = g.T.Numbered.number_of in
    let by_number = facts.position number (answers_always _ _ _ (λ f a r h called. search rules)) in
    c.ok.ensures.value ∙ searched number c.args.number c.args.items.now c.requires c.binary_search_by_key.result facts.bound by_number
