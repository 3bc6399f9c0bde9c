use Rattle.dsr_ledger.proofs.Common.{ap, ◌∙◌, option_map_or}
use Rattle.dsr_ledger.proofs.CallerLemmas.{blocks_told}
use Rattle.dsr_ledger.proofs.books.Books.blocks.Goals as goal

pub returns-in-Some-clause-stands : goal.returns-in-Some-clause-stands
returns-in-Some-clause-stands c = λ files h. ap (λ o. option_map_or (λ f. f.blocks) o 0) c.in-Some.ensures ∙ blocks_told c.args.self.now.kept files h c.args.k

pub returns-in-None-clause-stands : goal.returns-in-None-clause-stands
returns-in-None-clause-stands c = λ files h. ap (λ o. option_map_or (λ f. f.blocks) o 0) c.in-None.ensures ∙ blocks_told c.args.self.now.kept files h c.args.k
