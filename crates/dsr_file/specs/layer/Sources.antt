-- The events that were put while a source was read.
use Rattle.std.specs.Prelude.{◌≡◌, ℕ, ◌⊎◌, List, [], ◌∷◌, ◌++◌, Option, Result, Ok, Err}
use mathlib.Core.List.{IsPrefix}
use Rattle.dsr_records.specs.meaning.Records.{LayoutTable}
use Rattle.dsr_events.specs.declared.fault.Ending.{Ending}
use Rattle.dsr_io.specs.declared.read_count.ReadCount.{ReadCount}
use Rattle.dsr_events.specs.meaning.Orderly.{Placed}
use Rattle.dsr_io.specs.meaning.Told.{Told}
use Rattle.dsr_file.specs.meaning.Texts.{so_far}
use Rattle.dsr_file.specs.meaning.Runs.{FileText, events_of_text}
use Rattle.dsr_file.specs.layer.Runs.{known_lines, IsCutOff, BeginsEvents}
use Rattle.dsr_file.specs.declared.reading.ReadFileError.{ReadFileError}
use Rattle.dsr_file.specs.declared.reading.ReadFileError.TheVariants.{Memory, Refused}
use Rattle.dsr_file.specs.meaning.Sources.{before_last, Stopped, GaveText}

-- the list begins with the events of the bytes given before the last read
abbrev pub HasEarlier : LayoutTable → ReadCount → List ℕ → List Placed → Type 0
HasEarlier layout reads given es = IsPrefix (so_far layout (before_last reads given)) es

-- events cut off because memory was refused: those of the bytes given, with their ending if they had one; those of the
-- bytes before the last read came first
abbrev pub GaveForMemory : LayoutTable → ℕ → Told → Told → List Placed → Type 0
GaveForMemory layout limit before after es =
    (given : List ℕ) × (told : Option Ending) × Stopped layout limit before after given told × IsCutOff (known_lines layout given told) es
    × HasEarlier layout after.reads given es

-- the list has the events of a text that the source gave, or events cut off because memory was refused
abbrev pub IsRead : LayoutTable → ℕ → Told → Told → List Placed → Type 0
IsRead layout limit before after es =
    ((text : FileText) × GaveText layout limit before after text × (es ≡ events_of_text layout text)) ⊎ GaveForMemory layout limit before after es

-- the list followed by the event begins the events of the bytes given, with their ending if they had one, or is cut off
-- because memory was refused; the events of the bytes given before the last read were put
abbrev pub IsRefused : LayoutTable → ℕ → Told → Told → List Placed → Placed → Type 0
IsRefused layout limit before after es e =
    (given : List ℕ) × (told : Option Ending) × Stopped layout limit before after given told
    × BeginsEvents layout given told (es ++ e ∷ []) × HasEarlier layout after.reads given es

-- if memory was refused, nothing was read or put; a refused event comes after those that were put
abbrev pub IsRefusal : LayoutTable → ℕ → Told → Told → List Placed → ReadFileError → Type 0
IsRefusal layout limit before after es Memory = (after ≡ before) × (es ≡ [])
IsRefusal layout limit before after es (Refused e) = IsRefused layout limit before after es e

-- a result whose error is the event that the sink refused
abbrev pub refused_event : {O : Type 0} → Result O Placed → Result O ReadFileError
refused_event (Ok outcome) = Ok outcome
refused_event (Err e) = Err (Refused e)
