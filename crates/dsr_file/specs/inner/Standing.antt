-- What a reader represents: the bytes used so far, and the events given.
use Rattle.std.specs.Prelude.{◌≡◌, ℕ, ◌+◌, true, false, List, [], ◌∷◌, ◌++◌, length, map, Option, None, Some, unwrap_or}
use Rattle.dsr_records.specs.meaning.Records.{LayoutTable}
use Rattle.dsr_events.specs.declared.fault.Ending.{Ending}
use Rattle.dsr_events.specs.declared.fault.Outcome.{Outcome}
use Rattle.dsr_events.specs.declared.event.EventPart.{EventPart}
use Rattle.dsr_events.specs.declared.event.EventPart.TheVariants.{Ended}
use Rattle.dsr_file.specs.declared.phase.Phase.{Phase}
use Rattle.dsr_file.specs.declared.phase.Phase.TheVariants as phases
use Rattle.dsr_file.specs.declared.reader.FileReader.{FileReader}
use Rattle.dsr_events.specs.meaning.Orderly.{Placed, has_ended}
use Rattle.dsr_file.specs.meaning.Readings.{Reading, reading, records, events_of}
use Rattle.dsr_file.specs.meaning.Texts.{AllGood, first_from, placed}
use Rattle.dsr_file.specs.layer.Runs.{ended, known_events, known_lines, HasEvents, EndsWith}
use Rattle.dsr_file.specs.inner.Cutting.{CutsTo, CutSteps}
use Rattle.dsr_file.specs.declared.cutter.Cut.{Cut}
use Rattle.dsr_file.specs.inner.Grammars.{Keeps, LineSteps}
use Rattle.dsr_file.specs.declared.grammar.Step.{Step}
use Rattle.dsr_file.specs.inner.Allowance.{has_given_all, left}

-- the reader has this layout, and has used so many bytes and given so many events
abbrev pub IsAt : LayoutTable → FileReader → List ℕ → List Placed → Type 0
IsAt layout r bytes es = (r.layout ≡ layout) × (r.given ≡ length bytes) × (r.place ≡ length es)

-- these good lines are taken, the events given are theirs, and the text has this ending, if any
abbrev pub Taken : LayoutTable → FileReader → List Reading → Option Ending → List ℕ → List Placed → Type 0
Taken layout r ls told bytes es = Keeps r.grammar ls × (es ≡ placed 0 (events_of (records ls))) × (r.ending ≡ told) × IsAt layout r bytes es

-- all complete lines are taken, and the text has this ending, if any
abbrev pub AtLines : LayoutTable → FileReader → Option Ending → List ℕ → List Placed → Type 0
AtLines layout r told bytes es =
    (whole : List (List ℕ)) × CutsTo r.cutter.bytes.items r.cutter.fresh bytes whole × Taken layout r (map (reading layout) whole) told bytes es

abbrev pub StandsAt : LayoutTable → Phase → FileReader → List ℕ → List Placed → Type 0
StandsAt layout phases.Reading r bytes es = AtLines layout r None bytes es
StandsAt layout (phases.Waiting o) r bytes es = (known_events layout bytes r.ending ≡ es ++ ended (length es) o ∷ []) × (has_ended es ≡ false)
StandsAt layout (phases.Done o) r bytes es = HasEvents layout bytes r.ending es × EndsWith es o

-- the reader has this layout, and represents these bytes used and these events given
pub record Stands (layout : LayoutTable) (r : FileReader) (bytes : List ℕ) (es : List Placed) : Type 0 where
  pub at : IsAt layout r bytes es
  pub phase_is : StandsAt layout r.phase r bytes es

-- Ended was given
abbrev pub IsDone : FileReader → Type 0
IsDone r = has_given_all r.phase ≡ true

-- the ending of the first call of `finish`, if there was one
abbrev pub ending_told : FileReader → Option Ending
ending_told r = r.ending

abbrev pub first_ending : FileReader → Ending → Ending
first_ending r ending = unwrap_or r.ending ending

-- the number of bytes used
abbrev pub bytes_used : FileReader → ℕ
bytes_used r = r.given

-- how many events may still come without a further byte
abbrev pub events_left : FileReader → ℕ
events_left r = left r.phase

-- everything is the same except the place
pub record SameBut (old new : FileReader) : Type 0 where
  pub layout : new.layout ≡ old.layout
  pub given : new.given ≡ old.given
  pub phase : new.phase ≡ old.phase
  pub ending : new.ending ≡ old.ending
  pub cutter : new.cutter ≡ old.cutter
  pub grammar : new.grammar ≡ old.grammar

-- the layout, the bytes used and the ending are the same
pub record SameText (old new : FileReader) : Type 0 where
  pub layout : new.layout ≡ old.layout
  pub given : new.given ≡ old.given
  pub ending : new.ending ≡ old.ending

-- the last line of the bytes had this result, and closed this
pub record AtAnswer (layout : LayoutTable) (r : FileReader) (told : Option Ending) (number : ℕ) (step : Step) (closed : Option EventPart) (bytes : List ℕ)
    (es : List Placed) : Type 0 where
  pub ls : List Reading
  pub l : Reading
  pub lines_are : known_lines layout bytes told ≡ ls ++ l ∷ []
  pub good : first_from [] ls ≡ AllGood
  pub steps : LineSteps ls l step closed r.grammar
  pub number_is : number ≡ length ls + 1
  pub events_are : es ≡ placed 0 (events_of (records ls))
  pub told_is : r.ending ≡ told
  pub at : IsAt layout r bytes es

-- the same, and more lines may come
abbrev pub AtLine : LayoutTable → FileReader → ℕ → Step → Option EventPart → List ℕ → List Placed → Type 0
AtLine layout r number step closed bytes es = AtAnswer layout r None number step closed bytes es
    × ((whole : List (List ℕ)) × CutsTo r.cutter.bytes.items r.cutter.fresh bytes whole)

abbrev pub phase_after : Option EventPart → Outcome → Phase
phase_after None o = phases.Done o
phase_after (Some part) o = phases.Waiting o

-- the event of the last line, if there is one; otherwise the outcome
abbrev pub EndsAfter : ℕ → Option EventPart → Outcome → Placed → FileReader → Type 0
EndsAfter place part o e r = (r.phase ≡ phase_after part o) × (e ≡ record { place = place; part = unwrap_or part (Ended o) })

-- the cutter has used these bytes and returned this
abbrev pub AtCut : LayoutTable → FileReader → Cut → List ℕ → List ℕ → List Placed → Type 0
AtCut layout r cut bytes used es =
    (whole : List (List ℕ)) × CutSteps bytes used whole cut r.cutter × Taken layout r (map (reading layout) whole) None (bytes ++ used) es
