-- The accounts that amounts are added up under, their equality and their order.
use Rattle.std.specs.Prelude.{ℕ, List, [], Bool, ◌&&◌}
use Rattle.std.specs.Ordering.{ordering_then}
use Rattle.std.specs.Str.{bytes_eq}
use Rattle.std.specs.declared.cmp.Ordering.{Ordering}
use Rattle.dsr_ledger.specs.meaning.Bookings.{text_cmp}
use Rattle.dsr_sums.specs.declared.account.Account.{Account}

-- the account of a currency
abbrev pub currency_account : List ℕ → Account
currency_account currency = record { party = []; territory = []; use_type = []; currency = currency }

-- the account of a territory and a use type in a currency
abbrev pub market_account : List ℕ → List ℕ → List ℕ → Account
market_account territory use_type currency = record { party = []; territory = territory; use_type = use_type; currency = currency }

-- the account of a party in a currency
abbrev pub party_account : List ℕ → List ℕ → Account
party_account party currency = record { party = party; territory = []; use_type = []; currency = currency }

abbrev pub account_eq : Account → Account → Bool
account_eq a b =
    bytes_eq a.party b.party
    && (bytes_eq a.territory b.territory && (bytes_eq a.use_type b.use_type && bytes_eq a.currency b.currency))

-- the order of accounts: by party, then territory, then use type, then currency, each by bytes
abbrev pub account_cmp : Account → Account → Ordering
account_cmp a b =
    ordering_then (text_cmp a.party b.party)
    (ordering_then (text_cmp a.territory b.territory)
    (ordering_then (text_cmp a.use_type b.use_type) (text_cmp a.currency b.currency)))
