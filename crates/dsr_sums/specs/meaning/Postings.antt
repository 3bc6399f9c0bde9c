-- What is posted to accounts, and what each account adds up to.
use Rattle.std.specs.Prelude.{◌^◌, ℤ, pos, negsuc, ◌-ℤ◌, Bool, true, ◌&&◌, nat_lt, List, [], ◌∷◌, ◌++◌, filter, map}
use Rattle.dsr_ledger.specs.meaning.Bookings.{in_order}
use Rattle.dsr_ledger.specs.meaning.Limits.{int_sum_by}
use Rattle.dsr_sums.specs.declared.account.Account.{Account}
use Rattle.dsr_sums.specs.declared.reports.Role.{Role}
use Rattle.dsr_sums.specs.declared.reports.Role.TheVariants.{Given, Paid}
use Rattle.dsr_sums.specs.declared.sums.Sums.{Sums}
use Rattle.dsr_sums.specs.meaning.Accounts.{account_eq, account_cmp}

-- numbers that are added to those of an account
pub record Posting : Type 0 where
  pub account : Account
  pub sums : Sums

-- a number of a statement with this role: what was paid is subtracted
abbrev pub signed : Role → ℤ → ℤ
signed Given n = n
signed Paid n = pos 0 -ℤ n

abbrev pub signed_sums : Role → Sums → Sums
signed_sums role s = record {
  usages = signed role s.usages;
  amount = signed role s.amount;
  claimed = signed role s.claimed;
  unclaimed = signed role s.unclaimed;
}

-- a posting from a statement with this role
abbrev pub posting : Role → Account → Sums → Posting
posting role account sums = record { account = account; sums = signed_sums role sums }

-- the postings to an account
abbrev pub posted_to : Account → List Posting → List Posting
posted_to account ps = filter (λ p. account_eq account p.account) ps

-- the sums of postings
abbrev pub sums_of : List Posting → Sums
sums_of ps = record {
  usages = int_sum_by (λ p. p.sums.usages) ps;
  amount = int_sum_by (λ p. p.sums.amount) ps;
  claimed = int_sum_by (λ p. p.sums.claimed) ps;
  unclaimed = int_sum_by (λ p. p.sums.unclaimed) ps;
}

-- the sums of an account's postings
abbrev pub balance : List Posting → Account → Sums
balance ps account = sums_of (posted_to account ps)

-- a number is in the range of 128 bits
abbrev pub is_in_range : ℤ → Bool
is_in_range (pos n) = nat_lt n (2 ^ 127)
is_in_range (negsuc n) = nat_lt n (2 ^ 127)

abbrev pub are_in_range : Sums → Bool
are_in_range s = is_in_range s.usages && (is_in_range s.amount && (is_in_range s.claimed && is_in_range s.unclaimed))

-- with each of these postings after the earlier ones, the sums of its account are in the range of 128 bits
unfoldable pub stay_in_range : List Posting → List Posting → Bool
stay_in_range earlier [] = true
stay_in_range earlier (p ∷ ps) = are_in_range (balance (earlier ++ p ∷ []) p.account) && stay_in_range (earlier ++ p ∷ []) ps

-- no running sum of an account leaves the range of 128 bits
abbrev pub are_summable : List Posting → Bool
are_summable ps = stay_in_range [] ps

-- the accounts that have a posting, in their order, each with its sums
unfoldable pub balances : List Posting → List (Account × Sums)
balances ps = in_order account_cmp (balance ps) (map (λ p. p.account) ps)
