-- What the steps of a reader change, and what it represents while pieces are given.
use Rattle.std.specs.Prelude.{◌≡◌, ℕ, ◌⊎◌, List, ◌++◌, Option, None, [], ◌∷◌, ◌*◌, ◌<◌, ◌≤◌, false, length, take, Some}
use Rattle.dsr_records.specs.meaning.Records.{LayoutTable}
use Rattle.dsr_events.specs.declared.fault.Ending.{Ending}
use Rattle.dsr_events.specs.meaning.Orderly.{Placed, has_ended}
use Rattle.dsr_file.specs.declared.reader.FileReader.{FileReader}
use Rattle.dsr_file.specs.layer.Runs.{BeginsEvents, HasEvents, EndsWith}
use Rattle.dsr_file.specs.inner.Standing.{Stands, AtLine, AtLines, AtCut, IsDone}
use Rattle.std.specs.Option.{option_to_list}
use Rattle.dsr_file.specs.declared.cutter.Cut.{Cut}
use Rattle.dsr_events.specs.declared.event.EventPart.{EventPart}
use Rattle.dsr_file.specs.declared.grammar.Step.{Step}
use Rattle.dsr_file.specs.meaning.Texts.{placed, so_far}
use Rattle.std.specs.Io.KnownBytes.{Consumes}
use mathlib.Core.List.{IsPrefix}
use Rattle.dsr_events.specs.declared.fault.Outcome.{Outcome}
use Rattle.dsr_io.specs.meaning.Told.{Answered, Told}
use Rattle.dsr_file.specs.layer.Sources.{HasEarlier}

-- the new reader represents what the old one did, with these further bytes used and these further events given
abbrev pub Advances : FileReader → FileReader → List ℕ → List Placed → Type 0
Advances old new bytes events = (layout : LayoutTable) (b : List ℕ) (es : List Placed) → Stands layout old b es → Stands layout new (b ++ bytes) (es ++ events)

-- the new reader represents what the old one did, with these further events given
abbrev pub Gives : FileReader → FileReader → List Placed → Type 0
Gives old new events = (layout : LayoutTable) (b : List ℕ) (es : List Placed) → Stands layout old b es → Stands layout new b (es ++ events)

-- the events given are the first of the bytes used, which end in this way if there is an ending
abbrev pub HasBegun : FileReader → Option Ending → Type 0
HasBegun r ending = (layout : LayoutTable) (b : List ℕ) (es : List Placed) → Stands layout r b es → BeginsEvents layout b ending es

-- the events given are all of the bytes used, which end in this way if there is an ending
abbrev pub HasGivenAll : FileReader → Option Ending → Type 0
HasGivenAll r ending = (layout : LayoutTable) (b : List ℕ) (es : List Placed) → Stands layout r b es → HasEvents layout b ending es

-- no byte is used while an event of the bytes used before was not given
abbrev pub GivesBeforeItUses : FileReader → ℕ → Type 0
GivesBeforeItUses old used = (layout : LayoutTable) (b : List ℕ) (es : List Placed) → Stands layout old b es → HasEvents layout b None es ⊎ (used ≡ 0)

-- the new reader represents what the old one did
abbrev pub StandsAs : FileReader → FileReader → Type 0
StandsAs old new = (layout : LayoutTable) (b : List ℕ) (es : List Placed) → Stands layout old b es → Stands layout new b es

-- these bytes are used, and what they closed, if anything, is given
abbrev pub UsesBytes : FileReader → FileReader → List ℕ → Option EventPart → Type 0
UsesBytes old new used part = Advances old new used (placed old.place (option_to_list part))

-- what the cutter returned for these bytes is applied, and what they closed, if anything, is given
abbrev pub AppliesCut : FileReader → FileReader → Cut → List ℕ → Option EventPart → Type 0
AppliesCut old new cut used part = (layout : LayoutTable) (b : List ℕ) (es : List Placed) → AtCut layout old cut b used es
    → Stands layout new (b ++ used) (es ++ placed old.place (option_to_list part))

-- the result of the line of this number, which closed this, is applied, and this event, if any, is given
abbrev pub AppliesStep : FileReader → FileReader → ℕ → Step → Option EventPart → Option EventPart → Type 0
AppliesStep old new number step closed part = (layout : LayoutTable) (b : List ℕ) (es : List Placed) → AtLine layout old number step closed b es
    → Stands layout new b (es ++ placed old.place (option_to_list part))

-- the text is ended in this way, and this event is given
abbrev pub EndsText : FileReader → FileReader → Ending → Placed → Type 0
EndsText old new ending event = (layout : LayoutTable) (b : List ℕ) (es : List Placed) → AtLines layout old (Some ending) b es
    → Stands layout new b (es ++ event ∷ [])

-- the reader represents some bytes and these events
abbrev pub IsKnown : FileReader → List Placed → Type 0
IsKnown r es = (layout : LayoutTable) × (bytes : List ℕ) × Stands layout r bytes es

-- the whole piece was used, or a part of it up to Ended
pub record Fed (layout : LayoutTable) (r : FileReader) (bytes piece : List ℕ) (es : List Placed) : Type 0 where
  pub used : ℕ
  pub bound : used ≤ length piece
  pub whole : (used ≡ length piece) ⊎ IsDone r
  pub stands : Stands layout r (bytes ++ take used piece) es
  pub all : HasEvents layout (bytes ++ take used piece) None es

-- the events are the first of the bytes and a part of the piece
pub record FedSome (layout : LayoutTable) (bytes piece : List ℕ) (es : List Placed) : Type 0 where
  pub used : ℕ
  pub bound : used ≤ length piece
  pub begins : BeginsEvents layout (bytes ++ take used piece) None es

-- from a reader that represents some bytes and the events of the sink before, the piece was fed, and the sink has these
abbrev pub Feeds : FileReader → FileReader → List ℕ → List Placed → List Placed → Type 0
Feeds old new piece before after = (layout : LayoutTable) (b : List ℕ) → Stands layout old b before → Fed layout new b piece after

-- the same, up to the last of these events, which the sink refused
abbrev pub FeedsSome : FileReader → List ℕ → List Placed → List Placed → Type 0
FeedsSome old piece before after = (layout : LayoutTable) (b : List ℕ) → Stands layout old b before → FedSome layout b piece after

-- from such a reader the text was ended: the sink has all events, and the last one is this outcome
abbrev pub Finishes : FileReader → Ending → List Placed → List Placed → Outcome → Type 0
Finishes old ending before after outcome = (layout : LayoutTable) (b : List ℕ) → Stands layout old b before
    → HasEvents layout b (Some ending) after × EndsWith after outcome

-- the same, up to the last of these events, which the sink refused
abbrev pub FinishesSome : FileReader → Ending → List Placed → List Placed → Type 0
FinishesSome old ending before after = (layout : LayoutTable) (b : List ℕ) → Stands layout old b before → BeginsEvents layout b (Some ending) after

-- after this many reads, each of which gave 1 to 4,096 bytes, the bytes given have no fault, and their events were put
pub record Reads (layout : LayoutTable) (before after : Told) (reads : ℕ) (r : FileReader) (es : List Placed) : Type 0 where
  pub given : List ℕ
  pub answered : Answered before.reads after.reads reads reads
  pub consumed : Consumes before.remaining after.remaining given
  pub few : reads ≤ length given
  pub most : length given ≤ 4096 * reads
  pub last_small : 0 < reads → after.reads.last ≤ 4096
  pub stands : Stands layout r given es
  pub known : IsPrefix (so_far layout given) es
  pub earlier : HasEarlier layout after.reads given es
  pub going : has_ended (so_far layout given) ≡ false
  pub kept : after.failed ≡ before.failed
