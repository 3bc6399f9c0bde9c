use Rattle.dsr_file.specs.inner.Standing.{events_left}
use Rattle.example_reader.proofs.end.Given as goal

abbrev pub decreases-loop-event : goal.decreases-loop-event
decreases-loop-event g l = events_left l.file
