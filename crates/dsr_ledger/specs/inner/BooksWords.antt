-- The books, as a caller sees them, and books whose files have all ended.
use Rattle.std.specs.Prelude.{◌≡◌, ℕ, ◌<◌, Bool, true, false, is_some, List, length, slice_get}
use Rattle.std.specs.Option.{option_map_or}
use Rattle.dsr_ledger.specs.layer.Limits.{most_blocks}
use Rattle.dsr_ledger.specs.declared.books.Books.{Books}
use Rattle.dsr_ledger.specs.meaning.Files.{File}
use Rattle.dsr_ledger.specs.declared.closed.ClosedBooks.{ClosedBooks}
use Rattle.dsr_ledger.specs.meaning.Bookings.{bookings}
use Rattle.dsr_ledger.specs.meaning.Reports.{report_of}
use Rattle.dsr_ledger.specs.inner.Stands.{LedgerStands}
use Rattle.dsr_ledger.specs.inner.Books as inner

-- the books represent these files
abbrev pub Stands : Books → List File → Type 0
Stands books files = inner.Stands books.kept files

-- the number of files of the report, opened or not
abbrev pub files_count : Books → ℕ
files_count books = books.files

-- the number of files that were opened
abbrev pub opened_count : Books → ℕ
opened_count books = length books.kept.files.items

-- file k, from 0, is opened and has an opening
abbrev pub has_opening_at : Books → ℕ → Bool
has_opening_at books k = option_map_or (λ f. is_some f.opening) (slice_get books.kept.files.items k) false

-- file k, from 0, is opened and has ended
abbrev pub ended_at : Books → ℕ → Bool
ended_at books k = option_map_or (λ f. is_some f.outcome) (slice_get books.kept.files.items k) false

-- the number of blocks taken from file k, from 0; 0 if it is not opened
abbrev pub blocks_at : Books → ℕ → ℕ
blocks_at books k = option_map_or (λ f. f.blocks) (slice_get books.kept.files.items k) 0

-- file k can take a block: it has an opening, has not ended, and has fewer than `most_blocks` blocks
pub record CanBook (books : Books) (k : ℕ) : Type 0 where
  pub opening : has_opening_at books k ≡ true
  pub going : ended_at books k ≡ false
  pub room : blocks_at books k < most_blocks

-- file k can be ended: it is opened and has not ended
pub record CanEnd (books : Books) (k : ℕ) : Type 0 where
  pub opened : k < opened_count books
  pub going : ended_at books k ≡ false

-- all files of the report are opened and have ended
pub record AllEnded (books : Books) : Type 0 where
  pub opened : opened_count books ≡ files_count books
  pub ended : (k : ℕ) → k < files_count books → ended_at books k ≡ true

-- closed books represent these files: they have the report, but for the lines of its ledger, and the ledger
pub record AreClosed (books : ClosedBooks) (files : List File) : Type 0 where
  pub report : books.report ≡ record (report_of files) { ledger = books.report.ledger }
  pub ledger : LedgerStands books.ledger (bookings files)
