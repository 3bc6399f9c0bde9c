use Rattle.dsr_ledger.proofs.Common.{◌≡◌, take, flat_map, differences_kept}
use Rattle.dsr_ledger.proofs.findings.differences_of.Given as goal

abbrev pub invariant-loop-file : goal.invariant-loop-file
invariant-loop-file l = l.differences ≡ flat_map differences_kept (take l.file-index l.files)
