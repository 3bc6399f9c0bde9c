-- How a text is cut into lines, and the events of a text.
use Rattle.std.specs.Prelude.{ℕ, nat_lt, ◌&&◌, ◌||◌, Bool, true, false, List, [], ◌∷◌, length, if◌then◌else◌, ◌+◌, ◌++◌, map, Option, None, Some}
use Rattle.dsr_cells.specs.meaning.Lines.{pieces, is_long}
use Rattle.dsr_events.specs.declared.fault.Ending.{Ending}
use Rattle.dsr_events.specs.declared.record.Record.{Record}
use Rattle.dsr_records.specs.meaning.Records.{LayoutTable}
use Rattle.dsr_events.specs.declared.fault.FileFault.{FileFault}
use Rattle.dsr_events.specs.declared.fault.Outcome.{Outcome}
use Rattle.dsr_events.specs.declared.event.EventPart.{EventPart}
use Rattle.dsr_events.specs.declared.event.EventPart.TheVariants.{Ended}
use Rattle.dsr_file.specs.declared.stage.Before.{Before}
use Rattle.dsr_file.specs.declared.stage.Before.TheVariants.{Nothing, Front, Open, Used, Closed}
use Rattle.dsr_events.specs.meaning.Orderly.{Placed}
use Rattle.dsr_file.specs.meaning.Readings.{Reading, reading, records, events_of, last_of}
use Rattle.dsr_file.specs.meaning.Faults.{fault_of, column}
use Rattle.dsr_events.specs.declared.fault.FileFault.TheVariants as faults
use Rattle.dsr_events.specs.declared.fault.Ending.TheVariants as endings
use Rattle.dsr_events.specs.declared.fault.Outcome.TheVariants as outcomes

abbrev pub is_whole : Ending → Bool
is_whole endings.Whole = true
is_whole endings.Read = false
is_whole endings.Reads = false

-- the piece after the last line feed is a line if it is not empty, and the text is whole or the piece is too long
abbrev pub last_is_line : Ending → List ℕ → Bool
last_is_line ending piece = nat_lt 0 (length piece) && (is_whole ending || is_long piece)

abbrev pub lines_among : Ending → List (List ℕ) → List (List ℕ)
lines_among ending [] = []
lines_among ending (p ∷ []) = if last_is_line ending p then p ∷ [] else []
lines_among ending (p ∷ q ∷ ps) = p ∷ lines_among ending (q ∷ ps)

-- the lines of the text with these bytes and this ending; a carriage return at the end of a line is kept
abbrev pub lines : List ℕ → Ending → List (List ℕ)
lines bytes ending = lines_among ending (pieces bytes)

-- the first line that is not good: the lines before it, what it is, and its fault
pub data First : Type 0 where
  AllGood : First
  At : List Reading → Reading → FileFault → First

abbrev pub first_if : Option FileFault → List Reading → Reading → First → First
first_if None before l later = later
first_if (Some f) before l later = At before l f

-- the first line that is not good among these, which follow the lines `before`
abbrev pub first_from : List Reading → List Reading → First
first_from before [] = AllGood
first_from before (l ∷ ls) = first_if (fault_of before l) before l (first_from (before ++ l ∷ []) ls)

abbrev pub counts_fault : FileFault → Bool
counts_fault faults.FootLines = true
counts_fault faults.FootSummaries = true
counts_fault faults.FootBlocks = true
counts_fault _ = false

-- the records of the lines before the first fault, and FOOT itself if its counts are the fault
abbrev pub taken : List Reading → First → List Record
taken ls AllGood = records ls
taken ls (At before l f) = records (if counts_fault f then before ++ l ∷ [] else before)

-- the outcome of a text whose lines are all good
abbrev pub end_whole : Before → ℕ → Outcome
end_whole Nothing line = outcomes.Fault line faults.NoHead
end_whole Front line = outcomes.Fault line faults.NoFoot
end_whole Open line = outcomes.Fault line faults.NoFoot
end_whole Used line = outcomes.Fault line faults.NoFoot
end_whole Closed line = outcomes.Whole

abbrev pub outcome_at : Before → Ending → ℕ → Outcome
outcome_at c endings.Read line = outcomes.Fault line faults.Read
outcome_at c endings.Reads line = outcomes.Fault line faults.Reads
outcome_at c endings.Whole line = end_whole c line

abbrev pub end_of : List Record → Ending → ℕ → Outcome
end_of rs ending line = outcome_at (column (last_of rs)) ending line

-- the outcome of a text with these lines
abbrev pub outcome : List Reading → Ending → First → Outcome
outcome ls ending AllGood = end_of (records ls) ending (length ls + 1)
outcome ls ending (At before l f) = outcomes.Fault (length before + 1) f

-- the events of the lines of a text with this ending
unfoldable pub events : List Reading → Ending → List EventPart
events ls ending =
    let first = first_from [] ls in events_of (taken ls first) ++ Ended (outcome ls ending first) ∷ []

abbrev pub ended_so_far : First → List EventPart
ended_so_far AllGood = []
ended_so_far (At before l f) = Ended (outcomes.Fault (length before + 1) f) ∷ []

-- the events of lines after which more may come: without Ended as long as all lines are good
unfoldable pub events_so_far : List Reading → List EventPart
events_so_far ls = let first = first_from [] ls in events_of (taken ls first) ++ ended_so_far first

-- each event with its place
abbrev pub placed : ℕ → List EventPart → List Placed
placed n [] = []
placed n (part ∷ parts) = record { place = n; part = part } ∷ placed (n + 1) parts

-- what the lines of a text are, by a layout
abbrev pub readings : LayoutTable → List ℕ → Ending → List Reading
readings layout bytes ending = map (reading layout) (lines bytes ending)

-- the events of the text with these bytes and this ending
abbrev pub text_events : LayoutTable → List ℕ → Ending → List Placed
text_events layout bytes ending = placed 0 (events (readings layout bytes ending) ending)

-- the events of bytes, whatever follows them. The ending Read says only that the last piece is no line yet, unless it is
-- already too long
abbrev pub so_far : LayoutTable → List ℕ → List Placed
so_far layout bytes = placed 0 (events_so_far (readings layout bytes endings.Read))
