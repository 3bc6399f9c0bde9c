use Rattle.dsr_ledger.proofs.Common.{◌≡◌, drop, first_head, openings_of}
use Rattle.dsr_ledger.proofs.file.open.first_head.Given as goal

abbrev pub invariant-loop-file : goal.invariant-loop-file
invariant-loop-file l = first_head (openings_of l.files) ≡ first_head (openings_of (drop l.file-index l.files))
