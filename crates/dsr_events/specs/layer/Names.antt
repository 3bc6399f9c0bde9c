-- The outcomes of which refused memory is the cause.
use Rattle.std.specs.Prelude.{Bool, true, false}
use Rattle.dsr_events.specs.declared.fault.FileFault.{FileFault}
use Rattle.dsr_events.specs.declared.fault.FileFault.TheVariants.{Memory}
use Rattle.dsr_events.specs.declared.fault.Outcome.{Outcome}
use Rattle.dsr_events.specs.declared.fault.Outcome.TheVariants.{Whole, Fault}

abbrev pub is_memory_fault : FileFault → Bool
is_memory_fault Memory = true
is_memory_fault _ = false

-- the file ended because memory was refused
abbrev pub is_memory : Outcome → Bool
is_memory Whole = false
is_memory (Fault line fault) = is_memory_fault fault
