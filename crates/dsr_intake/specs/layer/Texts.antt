-- The standard options of an intake.
use Rattle.dsr_records.specs.meaning.Layouts.{standard_layout}
use Rattle.dsr_intake.specs.declared.options.Options.{Options}

abbrev pub standard_options : Options
standard_options = record { capacity = 16; max_reads = 4194304; layout = standard_layout }
