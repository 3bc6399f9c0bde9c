use Rattle.dsr_command.proofs.Common.{◌≢◌, All, Some, take}
use Rattle.dsr_command.proofs.new_file.is_read.Given as goal

abbrev pub invariant-loop-source : goal.invariant-loop-source
invariant-loop-source g l = All (λ r. g.R.FileSource.file r ≢ Some l.fn.file) (take l.source-index l.sources)
