-- The bookings of a report's blocks, and the keys of the ledger, their equality and their order.
use Rattle.std.specs.Prelude.{ℕ, List, Bool, ◌&&◌, map, Option, None, Some, [], ◌∷◌, find, option_map}
use Rattle.std.specs.Cmp.Lexicographic.{slice_cmp}
use Rattle.std.specs.Ordering.{nat_cmp, ordering_then}
use Rattle.std.specs.declared.cmp.Ordering.{Ordering}
use Rattle.std.specs.Str.{bytes_eq}
use Rattle.std.specs.List.{flat_map}
use Rattle.dsr_events.specs.declared.record.Summary.{Summary}
use Rattle.dsr_events.specs.declared.record.Usage.{Usage}
use Rattle.dsr_events.specs.meaning.Blocks.{BlockParts}
use Rattle.dsr_events.specs.meaning.Works.{WorkParts}
use Rattle.dsr_ledger.specs.declared.ledger.summary_key.SummaryKey.{SummaryKey}
use Rattle.dsr_ledger.specs.declared.verdict.Verdict.{Verdict}
use Rattle.dsr_ledger.specs.declared.verdict.Verdict.TheVariants.{Booked, Rejected}
use Rattle.dsr_ledger.specs.meaning.Files.{File, Filed, filed, summaries_of}
use Rattle.dsr_ledger.specs.meaning.Verdicts.{judged_in}
use Rattle.std.specs.FinMap as finite

-- the key of a ledger line: a recording, a territory, a use type and a currency
pub record Key : Type 0 where
  pub isrc : List ℕ
  pub territory : List ℕ
  pub use_type : List ℕ
  pub currency : List ℕ

abbrev pub key_eq : Key → Key → Bool
key_eq a b =
    bytes_eq a.isrc b.isrc
    && (bytes_eq a.territory b.territory && (bytes_eq a.use_type b.use_type && bytes_eq a.currency b.currency))

-- the order of texts: lexicographic by bytes, so a proper prefix comes first
abbrev pub text_cmp : List ℕ → List ℕ → Ordering
text_cmp = slice_cmp nat_cmp

-- the order of keys: by ISRC, then territory, then use type, then currency
abbrev pub key_cmp : Key → Key → Ordering
key_cmp a b =
    ordering_then (text_cmp a.isrc b.isrc)
    (ordering_then (text_cmp a.territory b.territory)
    (ordering_then (text_cmp a.use_type b.use_type) (text_cmp a.currency b.currency)))

-- each of these keys once, in order, with its value by f: the entries of a finite map, in the order of its keys
abbrev pub in_order : {K X : Type 0} → (K → K → Ordering) → (K → X) → List K → List (K × X)
in_order cmp f ks = finite.entries (finite.from_entries {R = cmp} (map (λ k. (k, f k)) ks))

-- the territory, use type and currency of a summary, under which its usages count
abbrev pub summary_key_of : Summary → SummaryKey
summary_key_of s = record { territory = s.territory; use_type = s.use_type; currency = s.currency }

-- the key of a ledger line: an ISRC, with the territory, use type and currency of a summary
abbrev pub key_under : List ℕ → SummaryKey → Key
key_under isrc p = record { isrc = isrc; territory = p.territory; use_type = p.use_type; currency = p.currency }

-- one booked usage, with the key that it counts under and the works of its block
pub record Booking : Type 0 where
  pub key : Key
  pub usage : Usage
  pub works : List WorkParts

-- the summary key of the first summary with this identifier
abbrev pub summary_key_named : List Summary → List ℕ → Option SummaryKey
summary_key_named summaries id = option_map summary_key_of (find (λ s. bytes_eq id s.id) summaries)

-- the booking of a usage whose summary has this key; none if it names no summary
abbrev pub booked_under : List ℕ → List WorkParts → Usage → Option SummaryKey → List Booking
booked_under isrc works u None = []
booked_under isrc works u (Some p) = record { key = key_under isrc p; usage = u; works = works } ∷ []

-- the bookings of a block's usages, in order, where `key_of` gives the summary key of an identifier
abbrev pub usage_bookings : (List ℕ → Option SummaryKey) → List ℕ → List WorkParts → List Usage → List Booking
usage_bookings key_of isrc works us = flat_map (λ u. booked_under isrc works u (key_of u.summary_id)) us

-- the bookings of a block that is booked
unfoldable pub block_bookings : List Summary → BlockParts → List Booking
block_bookings summaries b = usage_bookings (summary_key_named summaries) b.resource.isrc b.works b.usages

-- the bookings of a block with its verdict: none if it is rejected
abbrev pub verdict_bookings : List Summary → BlockParts × Verdict → List Booking
verdict_bookings summaries (b, Booked) = block_bookings summaries b
verdict_bookings summaries (b, Rejected reason) = []

-- the bookings of a file
abbrev pub filed_bookings : Filed → List Booking
filed_bookings d = flat_map (verdict_bookings (summaries_of d.file.opening)) (judged_in d)

-- all bookings of the files
abbrev pub bookings : List File → List Booking
bookings files = flat_map filed_bookings (filed files)
