-- What a book holds.
use Rattle.std.specs.Prelude.{◌≡◌, Bool, true, List, [], ◌∷◌, ◌++◌, Option, Some, None, unwrap_or, if◌then◌else◌}
use Rattle.std.specs.List.{flat_map, list_any}
use Rattle.indexmap.specs.IndexMap.{get}
use Rattle.dsr_sums.specs.declared.account.Account.{Account}
use Rattle.dsr_sums.specs.declared.book.Book.{Book}
use Rattle.dsr_sums.specs.declared.sums.Sums.{Sums}
use Rattle.dsr_sums.specs.meaning.Accounts.{account_eq}
use Rattle.dsr_sums.specs.meaning.Postings.{Posting, balance, balances, are_in_range, are_summable}
use Rattle.dsr_sums.specs.declared.totals.Totals.{Totals}
use Rattle.dsr_sums.specs.meaning.Totals.{Booked, to_currency, to_market, to_party}
use Rattle.dsr_sums.specs.inner.Plus.{plus, zero_sums}

-- an account has a posting
abbrev pub is_posted_to : List Posting → Account → Bool
is_posted_to ps account = list_any (λ p. account_eq account p.account) ps

-- the sums of an account that has a posting
abbrev pub entry_of : List Posting → Account → Option Sums
entry_of ps account = if is_posted_to ps account then Some (balance ps account) else None

-- the book holds these postings: the sums of each account, unless one of them left the range
pub record HoldsPostings (book : Book) (ps : List Posting) : Type 0 where
  pub range : book.in_range ≡ are_summable ps
  pub sums : are_summable ps ≡ true → (account : Account) → get account_eq book.sums account ≡ entry_of ps account

-- if the book held some postings before, it now holds this one too
abbrev pub AddsPosting : Book → Book → Posting → Type 0
AddsPosting old new p = (ps : List Posting) → HoldsPostings old ps → HoldsPostings new (ps ++ p ∷ [])

-- the sums of an account in a book, which are 0 if it has none
abbrev pub sums_in : Book → Account → Sums
sums_in book account = unwrap_or (get account_eq book.sums account) zero_sums

-- these numbers were added to those of an account, or that left the range
pub record IsPosted (old new : Book) (account : Account) (numbers : Sums) : Type 0 where
  pub added : are_in_range (plus (sums_in old account) numbers) ≡ true → (q : Account)
      → get account_eq new.sums q
      ≡ (if account_eq account q then Some (plus (sums_in old account) numbers) else get account_eq old.sums q)
  pub range : new.in_range ≡ are_in_range (plus (sums_in old account) numbers)

-- the totals hold these lines
pub record HoldsLines (totals : Totals) (bs : List Booked) : Type 0 where
  pub currencies : HoldsPostings totals.currencies (flat_map to_currency bs)
  pub markets : HoldsPostings totals.markets (flat_map to_market bs)
  pub parties : HoldsPostings totals.parties (flat_map to_party bs)

-- if the totals held some lines before, they now hold this one too
abbrev pub AddsLine : Totals → Totals → Booked → Type 0
AddsLine old new b = (bs : List Booked) → HoldsLines old bs → HoldsLines new (bs ++ b ∷ [])

-- the accounts of these lines are in their order, each with its sums
pub record AreSorted (totals : Totals) (bs : List Booked) : Type 0 where
  pub currencies : totals.currencies.sums.entries ≡ balances (flat_map to_currency bs)
  pub markets : totals.markets.sums.entries ≡ balances (flat_map to_market bs)
  pub parties : totals.parties.sums.entries ≡ balances (flat_map to_party bs)
