use Rattle.dsr_command.proofs.Common.{◌≡◌, map, take}
use Rattle.dsr_command.proofs.arguments.copy_names.Given as goal

abbrev pub invariant-loop-word : goal.invariant-loop-word
invariant-loop-word l = l.names ≡ map (λ w. w.now) (take l.word-index l.words)
