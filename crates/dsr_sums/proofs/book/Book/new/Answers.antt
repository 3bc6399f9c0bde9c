use Rattle.std.proofs.Common.{refl, ap}
use Rattle.std.specs.Map.{lookup}
use Rattle.dsr_sums.specs.meaning.Accounts.{account_eq}
use Rattle.dsr_sums.specs.meaning.Postings.{stay_in_range}
use Rattle.dsr_sums.proofs.book.Book.new.Goals as goal

pub returns : goal.returns
unfolding stay_in_range
returns c = record { range = refl; sums = λ _ a. ap (lookup (account_eq a)) c.with_hasher.ensures.empty }
