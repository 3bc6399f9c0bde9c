-- The stage of a file, what a record closes, and what it counts.
use Rattle.std.specs.Prelude.{◌≡◌, ℕ, ◌+◌, ◌≤◌, ◌<◌, ◌==◌, true, false, List, [], ◌∷◌, ◌++◌, length, map, Option, None, Some, if◌then◌else◌, OnSome}
use Rattle.std.specs.Str.{bytes_eq}
use Rattle.std.specs.List.{list_any, list_all}
use Rattle.dsr_events.specs.declared.kinds.Kind.{Kind}
use Rattle.dsr_events.specs.declared.record.Record.{Record}
use Rattle.dsr_events.specs.meaning.Blocks.{BlockParts}
use Rattle.dsr_records.specs.meaning.Records.{or_else}
use Rattle.dsr_events.specs.declared.fault.FileFault.{FileFault}
use Rattle.dsr_events.specs.declared.event.EventPart.{EventPart}
use Rattle.dsr_file.specs.declared.stage.Before.{Before}
use Rattle.dsr_file.specs.declared.stage.Stage.{Stage}
use Rattle.dsr_file.specs.declared.stage.Stage.TheVariants.{Start, Front, Open, Closed}
use Rattle.dsr_file.specs.meaning.Readings.{parts, opens, last_of, block_limit, has_id}
use Rattle.dsr_file.specs.meaning.Faults.{column, place, summary_fault, member_fault}
use Rattle.dsr_file.specs.declared.closed.Closed.TheInside.{Inside}
use Rattle.dsr_events.specs.meaning.Orderly.{Placed}
use Rattle.dsr_events.specs.declared.kinds.Kind.TheVariants as kinds
use Rattle.dsr_events.specs.declared.record.Record.TheVariants as the
use Rattle.dsr_events.specs.declared.record.Head as head
use Rattle.dsr_events.specs.declared.event.EventPart.TheVariants as tell
use Rattle.dsr_file.specs.declared.stage.Before.TheVariants as columns
use Rattle.dsr_events.specs.declared.record.Foot as foot

abbrev pub column_at : Stage → Before
column_at Start = columns.Nothing
column_at (Front o) = columns.Front
column_at (Open b) = if length b.usages == 0 then columns.Open else columns.Used
column_at Closed = columns.Closed

-- the number of records of an open block
abbrev pub block_length : BlockParts → ℕ
block_length b = 1 + length b.works + length b.usages

abbrev pub kept_fault : Stage → Kind → Option (List ℕ) → Option FileFault
kept_fault (Front o) kinds.Summary (Some summary_id) = summary_fault o.summaries summary_id
kept_fault (Open b) kinds.Work (Some block_id) = member_fault b.id (block_length b) block_id
kept_fault (Open b) kinds.Usage (Some block_id) = member_fault b.id (block_length b) block_id
kept_fault _ _ _ = None

-- the fault of a record of this kind and with this identifier, if there is one
abbrev pub stage_fault : Stage → Kind → Option (List ℕ) → Option FileFault
stage_fault stage k i = or_else (place (column_at stage) k) (kept_fault stage k i)

-- an open block has room for one more record
abbrev pub HasRoom : Stage → Type 0
HasRoom (Open b) = block_length b < block_limit
HasRoom _ = Unit {0}

-- no summary has this identifier
abbrev pub IsNew : Stage → List ℕ → Type 0
IsNew (Front o) summary_id = list_any (λ s. bytes_eq s.id summary_id) o.summaries ≡ false
IsNew _ summary_id = Unit {0}

-- a work or a usage
abbrev pub IsMember : Record → Type 0
IsMember (the.Work w) = Unit {0}
IsMember (the.Usage u) = Unit {0}
IsMember _ = ⊥

-- there is room for the record, and no summary has its identifier
abbrev pub IsFree : Stage → Record → Type 0
IsFree stage (the.Work w) = HasRoom stage
IsFree stage (the.Usage u) = HasRoom stage
IsFree stage (the.Summary s) = IsNew stage s.id
IsFree stage _ = Unit {0}

-- the event of what is open, once it is closed
abbrev pub part_given : Stage → Option EventPart
part_given Start = None
part_given (Front o) = Some (tell.Opened o)
part_given (Open b) = Some (tell.Block b)
part_given Closed = None

abbrev pub given_by : Stage → Record → Option EventPart
given_by stage r = if opens r then part_given stage else None

-- the stage after a record that is in its place
abbrev pub stage_after : Stage → Record → Stage
stage_after stage (the.Head h) = Front (record { head = h; summaries = [] })
stage_after (Front o) (the.Summary s) = Front (record o { summaries = o.summaries ++ s ∷ [] })
stage_after stage (the.Resource r) = Open (record { id = r.block_id; resource = r; works = []; usages = [] })
stage_after (Open b) (the.Work w) = Open (record b { works = b.works ++ w ∷ [] })
stage_after (Open b) (the.Usage u) = Open (record b { usages = b.usages ++ u ∷ [] })
stage_after stage (the.Foot f) = Closed
stage_after stage _ = stage

-- the records of a block
abbrev pub records_of : BlockParts → List Record
records_of b = the.Resource b.resource ∷ (map the.Work b.works ++ map the.Usage b.usages)

-- the records end with those of an open block
pub record IsOpen (b : BlockParts) (rs : List Record) : Type 0 where
  pub head : head.Head
  pub rest : List Record
  pub first : List Record
  pub before : List (List Record)
  pub begins : rs ≡ the.Head head ∷ rest
  pub opened : list_any opens rs ≡ true
  pub column : column (last_of rs) ≡ column_at (Open b)
  pub parts : parts rs ≡ first ∷ (before ++ records_of b ∷ [])
  pub id : b.id ≡ b.resource.block_id
  pub ids : list_all (has_id b.resource.block_id) (map the.Work b.works ++ map the.Usage b.usages) ≡ true
  pub short : block_length b ≤ block_limit

-- a file with these records is at this stage
abbrev pub KeepsStage : Stage → List Record → Type 0
KeepsStage Start rs = rs ≡ []
KeepsStage (Front o) rs = rs ≡ the.Head o.head ∷ map the.Summary o.summaries
KeepsStage (Open b) rs = IsOpen b rs
KeepsStage Closed rs = column (last_of rs) ≡ columns.Closed

abbrev pub foot_in : Record → Option foot.Foot
foot_in (the.Foot f) = Some f
foot_in _ = None

abbrev pub summary_count : Record → ℕ
summary_count (the.Summary s) = 1
summary_count _ = 0

-- 1 for a block, otherwise 0
abbrev pub block_count : Option EventPart → ℕ
block_count (Some (tell.Block b)) = 1
block_count _ = 0

-- the block, or else the other part
abbrev pub block_or : Option BlockParts → Option EventPart → Option EventPart
block_or (Some block) other = Some (tell.Block block)
block_or None other = other

-- what is closed
abbrev pub part_closed : Inside → Option EventPart
part_closed c = block_or c.block c.other

-- a block and another part are not closed at once
abbrev pub IsOne : Inside → Type 0
IsOne c = OnSome c.block (c.other ≡ None)

-- the event of what is closed, with this place
abbrev pub event_at : ℕ → Option EventPart → Option Placed
event_at place None = None
event_at place (Some part) = Some (record { place = place; part = part })
