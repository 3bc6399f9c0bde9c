-- What the books represent.
use Rattle.std.specs.Prelude.{ℕ, ◌≤◌, Bool, false, is_some, List, [], length, slice_get}
use Rattle.std.specs.Option.{option_map_or}
use Rattle.std.specs.List.{AllByRecursion}
use Rattle.dsr_ledger.specs.layer.Limits.{most_blocks}
use Rattle.dsr_ledger.specs.declared.books.Kept.{Kept}
use Rattle.dsr_ledger.specs.meaning.Files.{File}
use Rattle.dsr_ledger.specs.meaning.Bookings.{bookings}
use Rattle.dsr_ledger.specs.inner.FileSteps.{IsBlockInRange, IsNumberedFile}
use Rattle.dsr_ledger.specs.inner.Stands.{FilesStand, LedgerStands}

-- the state of the books represents these files
pub record Stands (kept : Kept) (files : List File) : Type 0 where
  pub each : FilesStand 1 [] kept.files.items files
  pub ledger : LedgerStands kept.ledger (bookings files)

-- a file has at most `most_blocks` blocks, each in range
pub record IsSmallFile (file : File) : Type 0 where
  pub few : length file.blocks ≤ most_blocks
  pub range : AllByRecursion IsBlockInRange file.blocks

-- the state of the books represents some files within the limits, and each summary has the number of its key
pub record IsReached (kept : Kept) : Type 0 where
  pub files : List File
  pub stands : Stands kept files
  pub small : AllByRecursion IsSmallFile files
  pub numbered : AllByRecursion (IsNumberedFile kept.ledger) kept.files.items

-- file k, from 0, is there and has an opening
abbrev pub has_opening_in : List File → ℕ → Bool
has_opening_in files k = option_map_or (λ f. is_some f.opening) (slice_get files k) false

-- file k, from 0, is there and has ended
abbrev pub ended_in : List File → ℕ → Bool
ended_in files k = option_map_or (λ f. is_some f.outcome) (slice_get files k) false

-- the number of blocks of file k, from 0; 0 if it is not there
abbrev pub blocks_in : List File → ℕ → ℕ
blocks_in files k = option_map_or (λ f. length f.blocks) (slice_get files k) 0
