use Rattle.dsr_ledger.proofs.Common.{◌≡◌, take, false, list_any, has_same_number, openings_of}
use Rattle.dsr_ledger.proofs.file.open.is_number_taken.Given as goal

abbrev pub invariant-loop-file : goal.invariant-loop-file
invariant-loop-file l = list_any (has_same_number l.opening.head) (openings_of (take l.file-index l.files)) ≡ false
