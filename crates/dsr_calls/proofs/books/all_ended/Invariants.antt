use Rattle.std.proofs.Common.{◌≡◌, ◌<◌, ℕ, true}
use Rattle.dsr_ledger.specs.inner.BooksWords.{ended_at}
use Rattle.dsr_calls.proofs.books.all_ended.Given as goal

abbrev pub invariant-loop-k : goal.invariant-loop-k
invariant-loop-k l = (i : ℕ) → i < l.k → ended_at l.books i ≡ true
