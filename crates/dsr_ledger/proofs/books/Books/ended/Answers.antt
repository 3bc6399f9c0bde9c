use Rattle.dsr_ledger.proofs.Common.{ap, ◌∙◌, is_some, false, option_map_or}
use Rattle.dsr_ledger.proofs.CallerLemmas.{ended_told}
use Rattle.dsr_ledger.proofs.books.Books.ended.Goals as goal

pub returns-in-Some-clause-stands : goal.returns-in-Some-clause-stands
returns-in-Some-clause-stands c =
    λ files h. c.is_some.ensures ∙ ap (λ o. option_map_or (λ f. is_some f.outcome) o false) c.in-Some.ensures ∙ ended_told c.args.self.now.kept files h c.args.k

pub returns-in-None-clause-stands : goal.returns-in-None-clause-stands
returns-in-None-clause-stands c =
    λ files h. ap (λ o. option_map_or (λ f. is_some f.outcome) o false) c.in-None.ensures ∙ ended_told c.args.self.now.kept files h c.args.k
