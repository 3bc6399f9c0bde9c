-- What the lines of statements add up to.
use Rattle.std.specs.Prelude.{ℕ, ℤ, pos, ◌&&◌, Bool, List, [], ◌∷◌, ◌++◌, codes}
use Rattle.std.specs.Fmt.{signed_decimal}
use Rattle.std.specs.List.{flat_map}
use Rattle.dsr_statement.specs.meaning.Cells.{amount_cell}
use Rattle.dsr_statement.specs.declared.line.Line.{Line}
use Rattle.dsr_statement.specs.declared.line.Line.TheVariants as lines
use Rattle.dsr_sums.specs.declared.account.Account.{Account}
use Rattle.dsr_sums.specs.declared.reports.Role.{Role}
use Rattle.dsr_sums.specs.declared.sums.Sums.{Sums}
use Rattle.dsr_sums.specs.meaning.Accounts.{currency_account, market_account, party_account}
use Rattle.dsr_sums.specs.meaning.Postings.{Posting, posting, balances, are_summable}

-- each cell after a tab
abbrev pub tabbed : List (List ℕ) → List ℕ
tabbed cells = flat_map (λ cell. 9 ∷ cell) cells

-- a line of totals: its name, its cells each after a tab, a line feed
abbrev pub line : List ℕ → List (List ℕ) → List ℕ
line name cells = name ++ (tabbed cells ++ 10 ∷ [])

-- a line of a statement with this role
pub record Booked : Type 0 where
  pub role : Role
  pub line : Line

abbrev pub booked : Role → Line → Booked
booked role l = record { role = role; line = l }

-- usages and an amount
abbrev pub numbers : ℤ → ℤ → Sums
numbers usages amount = record { usages = usages; amount = amount; claimed = pos 0; unclaimed = pos 0 }

-- an amount that a party claims
abbrev pub claimed : ℤ → Sums
claimed amount = record { usages = pos 0; amount = pos 0; claimed = amount; unclaimed = pos 0 }

-- an amount that no party claims
abbrev pub unclaimed : ℤ → Sums
unclaimed amount = record { usages = pos 0; amount = pos 0; claimed = pos 0; unclaimed = amount }

-- what a line of a statement with this role adds to its currency: a ledger line its usages and its amount, a party its part,
-- and what is left
abbrev pub to_currency_by : Role → Line → List Posting
to_currency_by role (lines.Ledger key usages amount) = posting role (currency_account key.currency) (numbers usages amount) ∷ []
to_currency_by role (lines.Party key p) = posting role (currency_account key.currency) (claimed p.amount) ∷ []
to_currency_by role (lines.Unclaimed key amount) = posting role (currency_account key.currency) (unclaimed amount) ∷ []
to_currency_by role _ = []

-- what it adds to its market
abbrev pub to_market_by : Role → Line → List Posting
to_market_by role (lines.Ledger key usages amount) =
    posting role (market_account key.territory key.use_type key.currency) (numbers usages amount) ∷ []
to_market_by role _ = []

-- what it adds to its party
abbrev pub to_party_by : Role → Line → List Posting
to_party_by role (lines.Party key p) = posting role (party_account p.party key.currency) (numbers (pos 0) p.amount) ∷ []
to_party_by role _ = []

abbrev pub to_currency : Booked → List Posting
to_currency b = to_currency_by b.role b.line

abbrev pub to_market : Booked → List Posting
to_market b = to_market_by b.role b.line

abbrev pub to_party : Booked → List Posting
to_party b = to_party_by b.role b.line

-- no running sum over the lines leaves the range of 128 bits
unfoldable pub are_in_range : List Booked → Bool
are_in_range bs =
    are_summable (flat_map to_currency bs) && (are_summable (flat_map to_market bs) && are_summable (flat_map to_party bs))

-- the lines of currencies, markets and parties
unfoldable pub currency_line : Account × Sums → List ℕ
currency_line e = line (codes "CURRENCY")
    (e.0.currency ∷ signed_decimal e.1.usages ∷ amount_cell e.1.amount ∷ amount_cell e.1.claimed ∷ amount_cell e.1.unclaimed ∷ [])

unfoldable pub market_line : Account × Sums → List ℕ
market_line e = line (codes "MARKET")
    (e.0.territory ∷ e.0.use_type ∷ e.0.currency ∷ signed_decimal e.1.usages ∷ amount_cell e.1.amount ∷ [])

unfoldable pub party_line : Account × Sums → List ℕ
party_line e = line (codes "PARTY") (e.0.party ∷ e.0.currency ∷ amount_cell e.1.amount ∷ [])

-- the lines of all currencies, then of all markets, then of all parties, each by its account
unfoldable pub sums_text : List Booked → List ℕ
sums_text bs =
    flat_map currency_line (balances (flat_map to_currency bs))
    ++ (flat_map market_line (balances (flat_map to_market bs)) ++ flat_map party_line (balances (flat_map to_party bs)))
