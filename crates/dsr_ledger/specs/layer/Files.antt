-- The files of a report, with a file, a block or an outcome added.
use Rattle.std.specs.Prelude.{ℕ, zero, suc, Option, None, Some, List, [], ◌∷◌, ◌++◌}
use Rattle.dsr_events.specs.meaning.Blocks.{BlockParts}
use Rattle.dsr_events.specs.declared.fault.Outcome.{Outcome}
use Rattle.dsr_events.specs.meaning.Openings.{OpeningParts}
use Rattle.dsr_ledger.specs.meaning.Files.{File, Filed}

-- a file that is opened, has no blocks yet and has not ended
abbrev pub opened : Option OpeningParts → File
opened o = record { opening = o; blocks = []; outcome = None }

abbrev pub add_block : BlockParts → File → File
add_block b f = record f { blocks = f.blocks ++ b ∷ [] }

abbrev pub end_with : Outcome → File → File
end_with o f = record f { outcome = Some o }

-- the files, with file k, from 0, changed by g
abbrev pub with_file : (File → File) → List File → ℕ → List File
with_file g [] k = []
with_file g (f ∷ fs) zero = g f ∷ fs
with_file g (f ∷ fs) (suc k) = f ∷ with_file g fs k

-- the files, with the block added to file k
abbrev pub with_block : List File → ℕ → BlockParts → List File
with_block files k b = with_file (add_block b) files k

-- the files, with file k ended by this outcome
abbrev pub with_outcome : List File → ℕ → Outcome → List File
with_outcome files k o = with_file (end_with o) files k

-- the file with one more block
abbrev pub with_one : Filed → BlockParts → Filed
with_one d b = record d { file = add_block b d.file }
