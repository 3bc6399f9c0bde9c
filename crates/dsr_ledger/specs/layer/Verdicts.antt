-- The verdict of the next block.
use Rattle.std.specs.Prelude.{ℕ, List, Option, None, Some, slice_get}
use Rattle.dsr_events.specs.meaning.Blocks.{BlockParts}
use Rattle.dsr_ledger.specs.meaning.Files.{File, Filed, filed, summaries_of}
use Rattle.dsr_ledger.specs.declared.verdict.Verdict.{Verdict}
use Rattle.dsr_ledger.specs.declared.verdict.Verdict.TheVariants.{Booked}
use Rattle.dsr_ledger.specs.meaning.Verdicts.{verdict}

-- the verdict of the next block of a file
abbrev pub verdict_of : Filed → BlockParts → Verdict
verdict_of d b = verdict d.standing (summaries_of d.file.opening) d.file.blocks b

-- the verdict of the next block of a file; no block is taken of a file that is not there, so the value for None is never used
abbrev pub verdict_after : Option Filed → BlockParts → Verdict
verdict_after None b = Booked
verdict_after (Some d) b = verdict_of d b

-- the verdict of the next block of file k, from 0
abbrev pub verdict_in : List File → ℕ → BlockParts → Verdict
verdict_in files k b = verdict_after (slice_get (filed files) k) b
