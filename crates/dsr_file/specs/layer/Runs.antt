-- The first events of a text that a reader may give, and events cut off because memory was refused.
use Rattle.std.specs.Prelude.{◌≡◌, ℕ, ◌+◌, ◌⊎◌, true, false, List, [], ◌∷◌, ◌++◌, length, Option, None, Some}
use mathlib.Core.List.{IsPrefix}
use Rattle.dsr_events.specs.declared.record.Record.{Record}
use Rattle.dsr_records.specs.layer.Values.{has_texts}
use Rattle.dsr_records.specs.meaning.Records.{LayoutTable}
use Rattle.dsr_events.specs.declared.fault.FileFault.TheVariants.{Memory}
use Rattle.dsr_events.specs.declared.fault.Ending.{Ending}
use Rattle.dsr_events.specs.declared.fault.Ending.TheVariants.{Read}
use Rattle.dsr_events.specs.declared.fault.Outcome.{Outcome}
use Rattle.dsr_events.specs.declared.fault.Outcome.TheVariants.{Fault}
use Rattle.dsr_events.specs.declared.event.EventPart.TheVariants.{Ended}
use Rattle.dsr_events.specs.meaning.Orderly.{Placed, has_ended}
use Rattle.dsr_file.specs.meaning.Readings.{Reading, Holds, records, events_of}
use Rattle.dsr_file.specs.meaning.Faults.{early_fault}
use Rattle.dsr_file.specs.meaning.Texts.{AllGood, first_from, placed, readings, text_events, so_far}
use Rattle.dsr_file.specs.meaning.Runs.{FileText, events_of_text}

abbrev pub ended : ℕ → Outcome → Placed
ended place outcome = record { place = place; part = Ended outcome }

-- a prefix of the events without Ended, and then Ended with Memory at the next place
abbrev pub EndsByMemory : List Placed → List Placed → Type 0
EndsByMemory all es =
    (front : List Placed) × (line : ℕ) × IsPrefix front all × (has_ended front ≡ false) × (es ≡ front ++ ended (length front) (Fault line Memory) ∷ [])

-- a run of a text: a prefix of its events, or one that ends with Memory
abbrev pub IsRun : LayoutTable → FileText → List Placed → Type 0
IsRun layout text es = IsPrefix es (events_of_text layout text) ⊎ EndsByMemory (events_of_text layout text) es

-- a run of some text
abbrev pub IsSomeRun : List Placed → Type 0
IsSomeRun es = (layout : LayoutTable) × (text : FileText) × IsRun layout text es

-- memory was refused: the events of the good lines before a record that may need memory and has no early fault, and
-- then Memory at its line
pub record IsCutOff (ls : List Reading) (es : List Placed) : Type 0 where
  pub before : List Reading
  pub item : Record
  pub after : List Reading
  pub lines_are : ls ≡ before ++ Holds item ∷ after
  pub good : first_from [] before ≡ AllGood
  pub fits : early_fault (records before) item ≡ None
  pub takes : has_texts item ≡ true
  pub events_are : es ≡ placed 0 (events_of (records before) ++ Ended (Fault (length before + 1) Memory) ∷ [])

-- the known lines of bytes, and their events: as long as more may come (the last piece is then no line yet, as with the
-- ending Read), or with the ending
abbrev pub known_lines : LayoutTable → List ℕ → Option Ending → List Reading
known_lines layout bytes None = readings layout bytes Read
known_lines layout bytes (Some ending) = readings layout bytes ending

abbrev pub known_events : LayoutTable → List ℕ → Option Ending → List Placed
known_events layout bytes None = so_far layout bytes
known_events layout bytes (Some ending) = text_events layout bytes ending

-- the first of the known events, or events cut off because memory was refused
abbrev pub BeginsEvents : LayoutTable → List ℕ → Option Ending → List Placed → Type 0
BeginsEvents layout bytes told es = IsPrefix es (known_events layout bytes told) ⊎ IsCutOff (known_lines layout bytes told) es

-- all known events, or events cut off because memory was refused
abbrev pub HasEvents : LayoutTable → List ℕ → Option Ending → List Placed → Type 0
HasEvents layout bytes told es = (es ≡ known_events layout bytes told) ⊎ IsCutOff (known_lines layout bytes told) es

-- the outcome is that of the last event
abbrev pub EndsWith : List Placed → Outcome → Type 0
EndsWith es outcome = (before : List Placed) × (es ≡ before ++ ended (length before) outcome ∷ [])
