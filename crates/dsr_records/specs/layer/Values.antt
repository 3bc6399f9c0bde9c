-- Records of which a value needs memory; the kind and the identifier of a line.
use Rattle.std.specs.Prelude.{◌≡◌, ℕ, List, Option, None, Bool, true, false, Result, Ok, Err}
use Rattle.dsr_events.specs.declared.kinds.Kind.{Kind}
use Rattle.dsr_events.specs.declared.kinds.Kind.TheVariants.{Head, Summary, Resource, Work, Usage, Foot, Skipped}
use Rattle.dsr_records.specs.declared.fault.RecordFault.{RecordFault}
use Rattle.dsr_records.specs.declared.fault.ReadRecordError.{ReadRecordError}
use Rattle.dsr_records.specs.declared.fault.ReadRecordError.TheVariants.{Fault, Memory}
use Rattle.dsr_events.specs.declared.record.Record.{Record}
use Rattle.dsr_records.specs.meaning.Records.{LayoutTable}
use Rattle.dsr_events.specs.declared.record.Record.TheVariants as of
use Rattle.dsr_records.specs.meaning.Values.{id_of_record, record_of}

-- whether a record has texts, which may need memory
abbrev pub has_texts : Record → Bool
has_texts (of.Foot _) = false
has_texts of.Skipped = false
has_texts _ = true

-- the result is the line's record or its fault, or out of memory if the record has texts
abbrev pub AnswersRecord : Result Record RecordFault → Result Record ReadRecordError → Type 0
AnswersRecord (Ok wanted) (Ok found) = found ≡ wanted
AnswersRecord (Ok wanted) (Err (Fault fault)) = ⊥
AnswersRecord (Ok wanted) (Err Memory) = has_texts wanted ≡ true
AnswersRecord (Err wanted) (Ok found) = ⊥
AnswersRecord (Err wanted) (Err (Fault fault)) = fault ≡ wanted
AnswersRecord (Err wanted) (Err Memory) = ⊥

-- the kind of a record
abbrev pub kind_of_record : Record → Kind
kind_of_record (of.Head _) = Head
kind_of_record (of.Summary _) = Summary
kind_of_record (of.Resource _) = Resource
kind_of_record (of.Work _) = Work
kind_of_record (of.Usage _) = Usage
kind_of_record (of.Foot _) = Foot
kind_of_record of.Skipped = Skipped

abbrev pub kind_found : Result Record RecordFault → Result Kind RecordFault
kind_found (Ok found) = Ok (kind_of_record found)
kind_found (Err fault) = Err fault

-- the kind of a line's record, or its first fault
abbrev pub kind_of : LayoutTable → List ℕ → Result Kind RecordFault
kind_of layout line = kind_found (record_of layout line)

abbrev pub id_found : Result Record RecordFault → Option (List ℕ)
id_found (Ok found) = id_of_record found
id_found (Err fault) = None

-- the identifier of a line's record: that of a summary, or that of its block
abbrev pub id_of : LayoutTable → List ℕ → Option (List ℕ)
id_of layout line = id_found (record_of layout line)
