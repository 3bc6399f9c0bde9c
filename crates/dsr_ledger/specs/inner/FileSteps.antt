-- The plan of a block, made before anything is added, and what the block changes in the state of its file.
use Rattle.std.specs.Prelude.{◌≡◌, ℕ, List, Option, Some, map, ◌+◌, ◌≤◌, [], ◌∷◌, ◌++◌, length, option_map}
use Rattle.std.specs.List.{AllZip, AllByRecursion}
use Rattle.dsr_events.specs.declared.record.Usage.{Usage}
use Rattle.dsr_events.specs.meaning.Blocks.{BlockParts}
use Rattle.dsr_events.specs.meaning.Works.{WorkParts}
use Rattle.dsr_ledger.specs.declared.booking.Plan.{Plan}
use Rattle.dsr_ledger.specs.declared.ledger.Ledger.{Ledger}
use Rattle.dsr_ledger.specs.declared.ledger.parts.SeatShare.{SeatShare}
use Rattle.dsr_ledger.specs.declared.file.summaries.Summaries.{Summaries}
use Rattle.dsr_ledger.specs.declared.ledger.summary_key.SummaryKey.{SummaryKey}
use Rattle.dsr_ledger.specs.inner.Recordings.{IsWideAt, line_at, recording_number, seat_at, tally_at}
use Rattle.dsr_ledger.specs.inner.Seated.{AreSeated, shares_of}
use Rattle.dsr_ledger.specs.inner.Summaries.{index_at, IsInRange, state_at, state_with, AreNumbered}
use Rattle.dsr_ledger.specs.layer.Limits.{most_usages}
use Rattle.dsr_ledger.specs.declared.file.FileBooks.{FileBooks}
use Rattle.dsr_ledger.specs.declared.verdict.Verdict.{Verdict}
use Rattle.dsr_ledger.specs.inner.Ids.{is_in}
use Rattle.dsr_ledger.specs.meaning.Bookings.{summary_key_named, verdict_bookings, Key}
use Rattle.dsr_ledger.specs.meaning.Files.{summaries_of}
use Rattle.dsr_ledger.specs.meaning.Findings.{rejects_from}
use Rattle.dsr_ledger.specs.inner.Tallies.{tally_plus, key_tally}

-- the recording's line for a usage whose summary has this key; it has a part for the seat of each share
pub record IsLined (ledger : Ledger) (isrc : List ℕ) (shares : List SeatShare) (key : Option SummaryKey) (i : ℕ) : Type 0 where
  pub summary_key : SummaryKey
  pub key_is : key ≡ Some summary_key
  pub line_is : line_at ledger isrc summary_key ≡ Some i
  pub wide : IsWideAt ledger isrc shares i

-- the line of each usage, where `key_of` gives the summary key of an identifier
abbrev pub AreLined : Ledger → (List ℕ → Option SummaryKey) → List ℕ → List SeatShare → List Usage → List ℕ → Type 0
AreLined ledger key_of isrc shares us is = AllZip (λ u i. IsLined ledger isrc shares (key_of u.summary_id) i) us is

-- a plan has the number of the recording, the seats of the works' parties, and the summary and the line of each usage,
-- where `key_of` gives the summary key of an identifier
pub record IsPlanned (ledger : Ledger) (summaries : Summaries) (key_of : List ℕ → Option SummaryKey) (isrc : List ℕ) (works : List WorkParts)
    (us : List Usage) (plan : Plan) : Type 0 where
  pub recording_is : recording_number ledger isrc ≡ Some plan.recording
  pub seated : AreSeated (seat_at ledger isrc) plan.shares.items (shares_of works)
  pub counted : map (λ u. index_at summaries u.summary_id) us ≡ map Some plan.summaries.items
  pub lined : AreLined ledger key_of isrc plan.shares.items us plan.lines.items

-- each summary of the file has the number of its key in the ledger
abbrev pub IsNumberedFile : Ledger → FileBooks → Type 0
IsNumberedFile ledger f = AreNumbered ledger (summary_key_named (summaries_of f.opening)) f.summaries

-- the two states represent the same file
pub record IsSameFile (f g : FileBooks) : Type 0 where
  pub place : g.place ≡ f.place
  pub opening : g.opening ≡ f.opening
  pub standing : g.standing ≡ f.standing
  pub blocks : g.blocks ≡ f.blocks
  pub ids : (id : List ℕ) → is_in g.ids id ≡ is_in f.ids id
  pub summaries : (id : List ℕ) → state_at g.summaries id ≡ state_at f.summaries id
  pub rejects : g.rejects.items ≡ f.rejects.items
  pub outcome : g.outcome ≡ f.outcome

-- a block has at most 63 usages, each in range
pub record IsBlockInRange (b : BlockParts) : Type 0 where
  pub few : length b.usages ≤ most_usages
  pub range : AllByRecursion IsInRange b.usages

-- the file has one more block, with this verdict, the ledger has the block's bookings added, and the block is in range;
-- nothing is said of the identifiers
pub record TakesBlock (f g : FileBooks) (old new : Ledger) (b : BlockParts) (v : Verdict) : Type 0 where
  pub place : g.place ≡ f.place
  pub opening : g.opening ≡ f.opening
  pub standing : g.standing ≡ f.standing
  pub blocks : g.blocks ≡ f.blocks + 1
  pub summaries : (id : List ℕ) → state_at g.summaries id ≡ option_map (state_with id b.usages) (state_at f.summaries id)
  pub rejects : g.rejects.items ≡ f.rejects.items ++ rejects_from f.place (f.blocks + 1) ((b, v) ∷ [])
  pub outcome : g.outcome ≡ f.outcome
  pub tallies : (q : Key) → tally_at new q ≡ tally_plus (tally_at old q) (key_tally (verdict_bookings (summaries_of f.opening) (b, v)) q)
  pub range : IsBlockInRange b
