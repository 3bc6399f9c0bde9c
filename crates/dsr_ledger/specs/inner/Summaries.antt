-- The state of a file's summaries, and the ranges of the numbers that are added.
use Rattle.std.specs.Prelude.{ℕ, ◌+◌, ◌*◌, ◌^◌, ◌<◌, ◌≤◌, unsigned_abs, ◌≡◌, pos, ◌+ℤ◌, Bool, is_some, List, Option, None, Some, option_map, find, if◌then◌else◌}
use Rattle.dsr_events.specs.declared.record.Usage.{Usage}
use Rattle.dsr_ledger.specs.meaning.Limits.{int_sum_by}
use Rattle.dsr_ledger.specs.layer.Limits.{amount_bound}
use Rattle.dsr_ledger.specs.declared.sums.Sums.{Sums}
use Rattle.std.specs.Str.{bytes_eq}
use Rattle.indexmap.specs.IndexMap.{get, index_of}
use Rattle.dsr_events.specs.declared.record.Summary.{Summary}
use Rattle.dsr_ledger.specs.declared.file.summaries.SummaryState.{SummaryState}
use Rattle.dsr_ledger.specs.declared.file.summaries.Summaries.{Summaries}
use Rattle.dsr_ledger.specs.declared.ledger.Ledger.{Ledger}
use Rattle.dsr_ledger.specs.declared.ledger.summary_key.SummaryKey.{SummaryKey}
use Rattle.dsr_ledger.specs.meaning.Findings.{naming}
use Rattle.dsr_ledger.specs.inner.Recordings.{key_number}

-- a usage record's number of usages is at most 2^63, and its amount below 10^22 units, either way
pub record IsInRange (u : Usage) : Type 0 where
  pub usages : unsigned_abs u.usages ≤ 2 ^ 63
  pub amount : unsigned_abs u.amount < amount_bound

-- n more usages in range can be added within 128 bits
pub record SumsFit (n : ℕ) (s : Sums) : Type 0 where
  pub usages : unsigned_abs s.usages + n * 2 ^ 63 < 2 ^ 127
  pub amount : unsigned_abs s.amount + n * amount_bound < 2 ^ 127

-- the state with one more usage
abbrev pub state_plus : Usage → SummaryState → SummaryState
state_plus u s = record { key = s.key; sums = record { usages = s.sums.usages +ℤ u.usages; amount = s.sums.amount +ℤ u.amount } }

-- the number of the summary with this identifier
abbrev pub index_at : Summaries → List ℕ → Option ℕ
index_at summaries id = index_of bytes_eq summaries.states id

-- the state of the summary with this identifier
abbrev pub state_at : Summaries → List ℕ → Option SummaryState
state_at summaries id = get bytes_eq summaries.states id

-- the sums of the summary with this identifier
abbrev pub sums_at : Summaries → List ℕ → Option Sums
sums_at summaries id = option_map (λ s. s.sums) (state_at summaries id)

-- the number of the key of the summary with this identifier
abbrev pub number_at : Summaries → List ℕ → Option ℕ
number_at summaries id = option_map (λ s. s.key) (state_at summaries id)

-- each summary has the number of its key, where `key_of` gives the summary key of an identifier; an identifier has a
-- summary exactly if it has a key
abbrev pub AreNumbered : Ledger → (List ℕ → Option SummaryKey) → Summaries → Type 0
AreNumbered ledger key_of summaries =
    (id : List ℕ) → option_map (key_number ledger) (key_of id) ≡ option_map Some (number_at summaries id)

-- the sums with the usages added that name the summary
abbrev pub sums_with : List ℕ → List Usage → Sums → Sums
sums_with id us s = record {
  usages = s.usages +ℤ int_sum_by (λ u. u.usages) (naming id us);
  amount = s.amount +ℤ int_sum_by (λ u. u.amount) (naming id us);
}

-- the state with the usages added that name the summary
abbrev pub state_with : List ℕ → List Usage → SummaryState → SummaryState
state_with id us s = record { key = s.key; sums = sums_with id us s.sums }

-- there is a summary with this identifier
abbrev pub is_known : Summaries → List ℕ → Bool
is_known summaries id = is_some (index_at summaries id)

abbrev pub no_sums : Sums
no_sums = record { usages = pos 0; amount = pos 0 }

-- the state of a summary before any usage, where its key has this number
abbrev pub nothing_found : ℕ → SummaryState
nothing_found key = record { key = key; sums = no_sums }

-- the sums of the summary with this identifier, after these usages
abbrev pub found_in : List Summary → List Usage → List ℕ → Option Sums
found_in summaries us id = option_map (λ s. sums_with id us no_sums) (find (λ s. bytes_eq id s.id) summaries)

-- n more usages in range can be added within 128 bits
abbrev pub StateFits : ℕ → SummaryState → Type 0
StateFits n s = SumsFit n s.sums

-- the summary, if it has this identifier
abbrev pub named : List ℕ → Summary → Option Summary
named id s = if bytes_eq id s.id then Some s else None
