use Rattle.std.proofs.Common.{◌∙◌}
use Rattle.dsr_sums.proofs.BalanceLemmas.{balances_are}
use Rattle.dsr_sums.proofs.book.Book.sort.Goals as goal

pub returns : goal.returns
returns c = λ ps held whole.
    let sorted = c.in_ok-sort_unstable_keys.ensures in
    balances_are c.sort_unstable_keys.new.self ps (λ a. sorted.reordered.2 a ∙ held.sums whole a) sorted.unique sorted.sorted
