-- The prefixes of a text's events that a reader may give, and events cut off because memory was refused.
use Rattle.std.specs.Prelude.{ℕ, List}
use Rattle.dsr_records.specs.meaning.Records.{LayoutTable}
use Rattle.dsr_events.specs.declared.fault.Ending.{Ending}
use Rattle.dsr_events.specs.meaning.Orderly.{Placed}
use Rattle.dsr_file.specs.meaning.Texts.{text_events}

-- the bytes of a file, and how they end
pub record FileText : Type 0 where
  pub bytes : List ℕ
  pub ending : Ending

abbrev pub events_of_text : LayoutTable → FileText → List Placed
events_of_text layout text = text_events layout text.bytes text.ending
