use Rattle.dsr_ledger.proofs.Common.{◌≡◌, take, map, line_kept}
use Rattle.dsr_ledger.proofs.findings.file_lines.Given as goal

abbrev pub invariant-loop-file : goal.invariant-loop-file
invariant-loop-file l = l.lines ≡ map line_kept (take l.file-index l.files)
