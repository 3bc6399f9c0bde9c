-- The files of a report in the order given, and their standings.
use Rattle.std.specs.Prelude.{ℕ, suc, Bool, false, not, ◌==◌, ◌&&◌, Option, None, Some, List, [], ◌∷◌, ◌++◌, if◌then◌else◌}
use Rattle.std.specs.List.{list_any}
use Rattle.std.specs.Str.{bytes_eq}
use Rattle.dsr_cells.specs.meaning.Days.{CivilDay}
use Rattle.dsr_events.specs.declared.record.Head.{Head}
use Rattle.dsr_events.specs.declared.record.Summary.{Summary}
use Rattle.dsr_events.specs.meaning.Blocks.{BlockParts}
use Rattle.dsr_events.specs.declared.fault.Outcome.{Outcome}
use Rattle.dsr_events.specs.meaning.Openings.{OpeningParts}
use Rattle.dsr_ledger.specs.declared.verdict.Standing.{Standing}
use Rattle.dsr_ledger.specs.declared.verdict.Standing.TheVariants.{Ours, Foreign, Doubled, Headless}

-- a file: its opening, if it has one, its blocks in file order, and its outcome, if it has ended
pub record File : Type 0 where
  pub opening : Option OpeningParts
  pub blocks : List BlockParts
  pub outcome : Option Outcome

-- the same day of the civil calendar
abbrev pub same_day : CivilDay → CivilDay → Bool
same_day a b = (a.year == b.year) && ((a.month == b.month) && (a.day == b.day))

-- two files are of one report: MessageId, NumberOfFiles, UsageStartDate and UsageEndDate are equal
abbrev pub is_same_report : Head → Head → Bool
is_same_report a b =
    bytes_eq a.message_id b.message_id && ((a.number_of_files == b.number_of_files)
    && (same_day a.first_day b.first_day && same_day a.last_day b.last_day))

-- the head of the first file, in the order given, that has an opening: it gives the report's key
abbrev pub first_head : List (Option OpeningParts) → Option Head
first_head [] = None
first_head (None ∷ os) = first_head os
first_head (Some o ∷ os) = Some o.head

-- a head is of the report whose first head is given
abbrev pub is_of_report : Option Head → Head → Bool
is_of_report None h = false
is_of_report (Some first) h = is_same_report first h

-- an opening is of the same report as the head and has the same FileNumber
abbrev pub has_same_number : Head → Option OpeningParts → Bool
has_same_number h None = false
has_same_number h (Some o) = is_same_report h o.head && (h.file_number == o.head.file_number)

-- the standing of a file after files with the earlier openings: Headless without an opening, Foreign if it is of
-- another report than the first head, Doubled if an earlier file of its report has its FileNumber, else Ours
unfoldable pub standing : List (Option OpeningParts) → Option OpeningParts → Standing
standing earlier None = Headless
standing earlier (Some o) =
    if not (is_of_report (first_head (earlier ++ Some o ∷ [])) o.head) then Foreign
    else if list_any (has_same_number o.head) earlier then Doubled
    else Ours

-- the summaries of a file, in file order
abbrev pub summaries_of : Option OpeningParts → List Summary
summaries_of None = []
summaries_of (Some o) = o.summaries

-- a file with its place in the order given, from 1, and its standing
pub record Filed : Type 0 where
  pub place : ℕ
  pub standing : Standing
  pub file : File

-- the files with their standings, the first of them at this place, after files with the earlier openings
abbrev pub filed_after : ℕ → List (Option OpeningParts) → List File → List Filed
filed_after place earlier [] = []
filed_after place earlier (f ∷ fs) =
    record { place = place; standing = standing earlier f.opening; file = f } ∷ filed_after (suc place) (earlier ++ f.opening ∷ []) fs

-- the files of a report with their places, from 1, and their standings
abbrev pub filed : List File → List Filed
filed files = filed_after 1 [] files
