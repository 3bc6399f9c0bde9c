-- The bytes that a source gave, and the events that were put while it was read.
use Rattle.std.specs.Prelude.{◌≡◌, ℕ, ◌+◌, ◌-◌, ◌*◌, ◌<◌, ◌≤◌, ◌⊎◌, true, false, List, ◌++◌, length, take, Option, None, Some}
use Rattle.std.specs.Io.KnownBytes.{Consumes, IsAtEnd}
use mathlib.Core.List.{IsPrefix}
use Rattle.dsr_records.specs.meaning.Records.{LayoutTable}
use Rattle.dsr_events.specs.declared.fault.Ending.{Ending}
use Rattle.dsr_events.specs.declared.fault.Ending.TheVariants.{Whole, Read, Reads}
use Rattle.dsr_io.specs.declared.read_count.ReadCount.{ReadCount}
use Rattle.dsr_events.specs.meaning.Orderly.{has_ended}
use Rattle.dsr_io.specs.meaning.Told.{Answered, Told}
use Rattle.dsr_file.specs.meaning.Texts.{text_events, so_far}
use Rattle.dsr_file.specs.meaning.Runs.{FileText, events_of_text}

-- a source gave these bytes, and no read was made beyond the limit: each read gave some of them, or none, and the last one
-- at most 4,096. Whoever reads cannot know which read will be the last, so this holds of each.
pub record Gave (limit : ℕ) (before after : Told) (given : List ℕ) : Type 0 where
  pub reads : ℕ
  pub filled : ℕ
  pub answered : Answered before.reads after.reads reads filled
  pub consumed : Consumes before.remaining after.remaining given
  pub limited : reads ≤ limit
  pub least : filled ≤ length given
  pub most : length given ≤ 4096 * filled
  pub last_small : 0 < reads → after.reads.last ≤ 4096

-- how the bytes given ended: the last read gave none, because nothing was left or it failed; or each of the reads that
-- the limit allows gave some
abbrev pub EndsAs : ℕ → Told → ℕ → ℕ → Ending → Type 0
EndsAs limit after reads filled Whole = (reads ≡ filled + 1) × IsAtEnd after.remaining × (after.failed ≡ false)
EndsAs limit after reads filled Read = (reads ≡ filled + 1) × (after.failed ≡ true)
EndsAs limit after reads filled Reads = (reads ≡ limit) × (filled ≡ limit) × (after.failed ≡ false)

-- the bytes given before the last read
abbrev pub before_last : ReadCount → List ℕ → List ℕ
before_last reads given = take (length given - reads.last) given

-- the reading stopped at this ending, and the bytes given have no fault; or it stopped in the bytes of the last read,
-- where each read gave some and the bytes before them have no fault
abbrev pub Stopped : LayoutTable → ℕ → Told → Told → List ℕ → Option Ending → Type 0
Stopped layout limit before after given (Some ending) =
    (gave : Gave limit before after given) × EndsAs limit after gave.reads gave.filled ending × (has_ended (so_far layout given) ≡ false)
Stopped layout limit before after given None =
    (gave : Gave limit before after given) × (gave.reads ≡ gave.filled) × (after.failed ≡ false)
    × (has_ended (so_far layout (before_last after.reads given)) ≡ false)

-- the bytes given have a fault: every text that begins with them has the same events
abbrev pub IsSettledBy : LayoutTable → List ℕ → FileText → Type 0
IsSettledBy layout given text = (more : List ℕ) (ending : Ending) → text_events layout (given ++ more) ending ≡ events_of_text layout text

-- the text is what the source gave, with its ending; if a fault stopped the reading, it is any text that begins so
abbrev pub GaveText : LayoutTable → ℕ → Told → Told → FileText → Type 0
GaveText layout limit before after text =
    Stopped layout limit before after text.bytes (Some text.ending)
    ⊎ ((given : List ℕ) × Stopped layout limit before after given None × IsPrefix given text.bytes × IsSettledBy layout given text)
