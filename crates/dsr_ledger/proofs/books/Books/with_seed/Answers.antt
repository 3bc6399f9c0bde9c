use Rattle.dsr_ledger.proofs.Common.{rules}
use Rattle.dsr_ledger.proofs.books.Books.with_seed.Goals as goal

pub invariant_of-result-clause-most : goal.invariant_of-result-clause-most
invariant_of-result-clause-most c = c.requires.most

pub returns-clause-count : goal.returns-clause-count
returns-clause-count c = search rules
