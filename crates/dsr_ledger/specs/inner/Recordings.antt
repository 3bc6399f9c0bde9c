-- The ledger's tally of each key, and the numbers of its items.
use Rattle.std.specs.Prelude.{Bool, ◌&&◌, ◌≡◌, ℕ, List, Option, None, Some}
use Rattle.std.specs.Ordering.{ordering_then}
use Rattle.std.specs.declared.cmp.Ordering.{Ordering}
use Rattle.std.specs.Str.{bytes_eq}
use Rattle.dsr_ledger.specs.meaning.Bookings.{Key, text_cmp}
use Rattle.dsr_ledger.specs.declared.ledger.summary_key.SummaryKey.{SummaryKey}
use Rattle.std.specs.Option.{option_and_then}
use Rattle.std.specs.List.{position}
use Rattle.indexmap.specs.IndexMap.{get, index_of}
use Rattle.dsr_ledger.specs.declared.ledger.recording.Recording.{Recording}
use Rattle.dsr_ledger.specs.declared.ledger.Ledger.{Ledger}
use Rattle.dsr_ledger.specs.declared.ledger.parts.SeatShare.{SeatShare}
use Rattle.dsr_ledger.specs.inner.Numbered.{Grows, place_by}
use Rattle.dsr_ledger.specs.inner.Seated.{AreSeated, seat_numbers}
use Rattle.dsr_ledger.specs.inner.Tallies.{Tally, no_tally, lines_tally, line_keys, IsWide}

abbrev pub summary_key_eq : SummaryKey → SummaryKey → Bool
summary_key_eq a b = bytes_eq a.territory b.territory && (bytes_eq a.use_type b.use_type && bytes_eq a.currency b.currency)

-- the order of summary keys: by territory, then use type, then currency
abbrev pub summary_key_cmp : SummaryKey → SummaryKey → Ordering
summary_key_cmp a b =
    ordering_then (text_cmp a.territory b.territory)
    (ordering_then (text_cmp a.use_type b.use_type) (text_cmp a.currency b.currency))

-- a key without its ISRC
abbrev pub summary_key_in : Key → SummaryKey
summary_key_in key = record { territory = key.territory; use_type = key.use_type; currency = key.currency }

-- the number of a party
abbrev pub party_number : Ledger → List ℕ → Option ℕ
party_number ledger name = position (bytes_eq name) ledger.parties.keys

-- the number of a summary key
abbrev pub key_number : Ledger → SummaryKey → Option ℕ
key_number ledger key = position (summary_key_eq key) ledger.summary_keys.keys

-- the number of a recording
abbrev pub recording_number : Ledger → List ℕ → Option ℕ
recording_number ledger isrc = index_of bytes_eq ledger.recordings isrc

-- the seat of a party in a recording, where `party` gives the numbers of parties
abbrev pub seat_of : (List ℕ → Option ℕ) → Recording → List ℕ → Option ℕ
seat_of party r name = place_by party (seat_numbers r.seats) name

-- the tally of the summary key with this number in a recording; zeros if there is none
abbrev pub recording_tally : (List ℕ → Option ℕ) → Option ℕ → Option Recording → Tally
recording_tally party number None = no_tally
recording_tally party number (Some r) = lines_tally (seat_of party r) r.lines.items number

-- the ledger's tally of a key
abbrev pub tally_at : Ledger → Key → Tally
tally_at ledger key = recording_tally (party_number ledger) (key_number ledger (summary_key_in key)) (get bytes_eq ledger.recordings key.isrc)

-- the seat of a party in the recording with this ISRC
abbrev pub seat_at : Ledger → List ℕ → List ℕ → Option ℕ
seat_at ledger isrc name = option_and_then (λ r. seat_of (party_number ledger) r name) (get bytes_eq ledger.recordings isrc)

-- the line of a summary key in the recording with this ISRC
abbrev pub line_at : Ledger → List ℕ → SummaryKey → Option ℕ
line_at ledger isrc key = option_and_then (λ r. place_by (key_number ledger) (line_keys r.lines.items) key) (get bytes_eq ledger.recordings isrc)

-- line i of the recording with this ISRC has a part for the seat of each of these shares
abbrev pub IsWideAt : Ledger → List ℕ → List SeatShare → ℕ → Type 0
IsWideAt ledger isrc shares i = (r : Recording) → get bytes_eq ledger.recordings isrc ≡ Some r → IsWide shares r.lines.items i

-- the tallies are the same, and each summary key keeps its number
pub record KeepsKeys (old new : Ledger) : Type 0 where
  pub tallies : (q : Key) → tally_at new q ≡ tally_at old q
  pub keys : Grows (key_number old) (key_number new)

-- the tallies, the summary keys and the numbers of recordings are the same, and each party keeps its seats
pub record KeepsSeats (old new : Ledger) : Type 0 where
  pub tallies : (q : Key) → tally_at new q ≡ tally_at old q
  pub keys : new.summary_keys ≡ old.summary_keys
  pub recordings : (isrc : List ℕ) → recording_number new isrc ≡ recording_number old isrc
  pub seats : (isrc : List ℕ) → Grows (seat_at old isrc) (seat_at new isrc)

-- the tallies, the summary keys, the numbers of recordings and the seats are the same, lines keep their places, and
-- wide lines stay wide
pub record KeepsLines (old new : Ledger) : Type 0 where
  pub tallies : (q : Key) → tally_at new q ≡ tally_at old q
  pub keys : new.summary_keys ≡ old.summary_keys
  pub recordings : (isrc : List ℕ) → recording_number new isrc ≡ recording_number old isrc
  pub seats : (isrc name : List ℕ) → seat_at new isrc name ≡ seat_at old isrc name
  pub lines : (isrc : List ℕ) → Grows (line_at old isrc) (line_at new isrc)
  pub wide : (isrc : List ℕ) (shares : List SeatShare) (i : ℕ) → IsWideAt old isrc shares i → IsWideAt new isrc shares i

-- summary keys, recordings, seats and lines have the same numbers, and wide lines stay wide
pub record SameNumbers (old new : Ledger) : Type 0 where
  pub keys : new.summary_keys ≡ old.summary_keys
  pub recordings : (isrc : List ℕ) → recording_number new isrc ≡ recording_number old isrc
  pub seats : (isrc name : List ℕ) → seat_at new isrc name ≡ seat_at old isrc name
  pub lines : (isrc : List ℕ) (key : SummaryKey) → line_at new isrc key ≡ line_at old isrc key
  pub wide : (isrc : List ℕ) (shares : List SeatShare) (i : ℕ) → IsWideAt old isrc shares i → IsWideAt new isrc shares i

-- the numbers of a recording and of its line for a summary key; the line is wide, and the shares are at their parties'
-- seats
pub record IsLineOf (ledger : Ledger) (isrc : List ℕ) (key : SummaryKey) (es : List (List ℕ × ℕ)) (recording line : ℕ) (shares : List SeatShare) : Type 0 where
  pub recording_is : recording_number ledger isrc ≡ Some recording
  pub line_is : line_at ledger isrc key ≡ Some line
  pub wide : IsWideAt ledger isrc shares line
  pub seated : AreSeated (seat_at ledger isrc) shares es
