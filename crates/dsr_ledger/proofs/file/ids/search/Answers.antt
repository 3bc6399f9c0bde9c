use Rattle.dsr_ledger.proofs.Common.{rules, ◌∙◌, answers_always, rank_of}
use Rattle.dsr_ledger.proofs.IndexLemmas.{searched}
use Rattle.dsr_ledger.proofs.file.ids.search.Goals as goal

pub returns : goal.returns
returns c =
    let facts = c.binary_search_by_key.ensures in
    let by_rank = facts.position rank_of (answers_always _ _ _ (λ f a r h called. search rules)) in
    c.ok.ensures.value ∙ searched rank_of c.args.ranked c.args.run.now c.requires c.binary_search_by_key.result facts.bound by_rank
