-- What a grammar represents, and how a line changes it.
use Rattle.std.specs.Prelude.{◌≡◌, ◌+◌, ◌==◌, not, ◌||◌, true, List, [], ◌∷◌, ◌++◌, length, count_by, Option, None, Some, if◌then◌else◌}
use Rattle.std.specs.Option.{option_to_list}
use Rattle.dsr_events.specs.declared.record.Foot as foot
use Rattle.dsr_events.specs.declared.record.Record.{Record}
use Rattle.dsr_events.specs.declared.record.Record.TheVariants.{Skipped}
use Rattle.dsr_records.specs.layer.Values.{has_texts}
use Rattle.dsr_records.specs.meaning.Records.{or_else}
use Rattle.dsr_events.specs.declared.fault.FileFault.{FileFault}
use Rattle.dsr_events.specs.declared.fault.FileFault.TheVariants as faults
use Rattle.dsr_events.specs.declared.event.EventPart.{EventPart}
use Rattle.dsr_file.specs.declared.grammar.Grammar.{Grammar}
use Rattle.dsr_file.specs.declared.grammar.Step.{Step}
use Rattle.dsr_file.specs.declared.grammar.Step.TheVariants.{Good, Faulty, NoMemory}
use Rattle.dsr_file.specs.meaning.Readings.{Reading, Holds, records, is_skipped_line, is_skipped_record, closed, summaries, events_of}
use Rattle.dsr_file.specs.meaning.Faults.{fault_if, fault_of, early_fault}
use Rattle.dsr_file.specs.meaning.Texts.{AllGood, first_from, counts_fault}
use Rattle.dsr_file.specs.inner.Stages.{KeepsStage}

-- the fault of FOOT's counts, given the numbers that are kept
abbrev pub kept_count_fault : Grammar → foot.Foot → Option FileFault
kept_count_fault g f =
    let all = g.records + g.skipped_records in
    or_else (fault_if (not ((f.lines == all) || (f.lines == (all + g.skipped_lines)))) faults.FootLines)
    (or_else (fault_if (not (f.summaries == g.summaries)) faults.FootSummaries)
    (fault_if (not (f.blocks == g.blocks)) faults.FootBlocks))

-- the grammar represents these lines, all of which are good
pub record Keeps (g : Grammar) (ls : List Reading) : Type 0 where
  pub good : first_from [] ls ≡ AllGood
  pub stage_is : KeepsStage g.stage (records ls)
  pub lines_are : g.lines ≡ length ls
  pub skipped_are : g.skipped_lines ≡ count_by is_skipped_line ls
  pub types_are : g.skipped_records ≡ count_by is_skipped_record ls
  pub records_are : g.records ≡ length (records ls)
  pub summaries_are : g.summaries ≡ length (summaries (records ls))
  pub blocks_are : g.blocks ≡ length (closed (records ls))

-- the line holds a record that may need memory and has no early fault
pub record TakesMemory (ls : List Reading) (l : Reading) : Type 0 where
  pub item : Record
  pub held : l ≡ Holds item
  pub fits : early_fault (records ls) item ≡ None
  pub takes : has_texts item ≡ true

-- the result of a line after these lines, and what it closes, if anything
abbrev pub LineSteps : List Reading → Reading → Step → Option EventPart → Grammar → Type 0
LineSteps ls l Good closed g =
    Keeps g (ls ++ l ∷ []) × (fault_of ls l ≡ None) × (events_of (records (ls ++ l ∷ [])) ≡ events_of (records ls) ++ option_to_list closed)
LineSteps ls l (Faulty f) closed g =
    (fault_of ls l ≡ Some f) × (events_of (records (if counts_fault f then ls ++ l ∷ [] else ls)) ≡ events_of (records ls) ++ option_to_list closed)
LineSteps ls l NoMemory closed g = TakesMemory ls l

-- a record that is not of a skipped type
abbrev pub IsRecord : Record → Type 0
IsRecord Skipped = ⊥
IsRecord _ = Unit {0}
