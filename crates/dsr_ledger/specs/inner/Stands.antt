-- The state of the books represents a list of files, and the ledger represents bookings, whose sums fit into 128 bits.
use Rattle.std.specs.Prelude.{◌≡◌, ℕ, Option, List, length, map, ◌≤◌, ◌^◌}
use Rattle.std.specs.List.{list_any, AllZip, AllByRecursion}
use Rattle.dsr_events.specs.meaning.Blocks.{BlockParts}
use Rattle.dsr_events.specs.meaning.Openings.{OpeningParts}
use Rattle.dsr_ledger.specs.meaning.Bookings.{Key, Booking, verdict_bookings}
use Rattle.dsr_ledger.specs.declared.ledger.Ledger.{Ledger}
use Rattle.dsr_ledger.specs.declared.file.FileBooks.{FileBooks}
use Rattle.dsr_ledger.specs.declared.verdict.Verdict.{Verdict}
use Rattle.dsr_ledger.specs.meaning.Files.{File, Filed, filed_after, summaries_of}
use Rattle.dsr_ledger.specs.layer.Files.{with_one}
use Rattle.dsr_ledger.specs.meaning.Verdicts.{has_id, share_total}
use Rattle.dsr_ledger.specs.layer.Verdicts.{verdict_of}
use Rattle.dsr_ledger.specs.meaning.Findings.{usages_in, rejects_in}
use Rattle.dsr_ledger.specs.inner.Ids.{is_in}
use Rattle.dsr_ledger.specs.inner.Summaries.{sums_at, found_in, IsInRange}
use Rattle.dsr_ledger.specs.inner.Tallies.{tally_plus, key_tally}
use Rattle.dsr_ledger.specs.inner.Recordings.{tally_at}
use Rattle.dsr_ledger.specs.inner.FileSteps.{IsBlockInRange}
use Rattle.dsr_ledger.specs.meaning.Limits.{whole_share}

-- the openings of these files
abbrev pub openings_of : List FileBooks → List (Option OpeningParts)
openings_of fs = map (λ f. f.opening) fs

-- the state of a file represents it
pub record FileStands (f : FileBooks) (d : Filed) : Type 0 where
  pub place : f.place ≡ d.place
  pub opening : f.opening ≡ d.file.opening
  pub standing : f.standing ≡ d.standing
  pub blocks : f.blocks ≡ length d.file.blocks
  pub ids : (id : List ℕ) → is_in f.ids id ≡ list_any (has_id id) d.file.blocks
  pub summaries : (id : List ℕ) → sums_at f.summaries id ≡ found_in (summaries_of d.file.opening) (usages_in d.file.blocks) id
  pub rejects : f.rejects.items ≡ rejects_in d
  pub outcome : f.outcome ≡ d.file.outcome

-- each state represents its file, the first at this place, after files with the earlier openings
abbrev pub FilesStand : ℕ → List (Option OpeningParts) → List FileBooks → List File → Type 0
FilesStand place earlier fs files = AllZip FileStands fs (filed_after place earlier files)

-- the ledger has for each key the tally of these bookings
abbrev pub LedgerStands : Ledger → List Booking → Type 0
LedgerStands ledger bs = (key : Key) → tally_at ledger key ≡ key_tally bs key

-- a block in range was taken with this verdict: its file has one more block, and the ledger has its bookings added
pub record Took (d : Filed) (b : BlockParts) (v : Verdict) (g : FileBooks) (old new : Ledger) : Type 0 where
  pub is_verdict : v ≡ verdict_of d b
  pub stands : FileStands g (with_one d b)
  pub tallies : (key : Key) → tally_at new key ≡ tally_plus (tally_at old key) (key_tally (verdict_bookings (summaries_of d.file.opening) (b, v)) key)
  pub range : IsBlockInRange b

-- the usage of a booking is in range, and the shares of its works add up to at most 100 percent
abbrev pub IsSmall : Booking → Type 0
IsSmall b = IsInRange b.usage × (share_total b.works ≤ whole_share)

-- at most 2^49 bookings, each small
pub record AreSmall (bs : List Booking) : Type 0 where
  pub few : length bs ≤ 2 ^ 49
  pub each : AllByRecursion IsSmall bs

-- the ledger represents some small bookings
pub record AreOfSmall (ledger : Ledger) : Type 0 where
  pub bookings : List Booking
  pub stand : LedgerStands ledger bookings
  pub small : AreSmall bookings
