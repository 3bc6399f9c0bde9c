use Rattle.dsr_ledger.proofs.Common.{◌≡◌, take, fold, with_byte}
use Rattle.dsr_ledger.proofs.file.ids.number_with.Given as goal

abbrev pub invariant-loop-byte : goal.invariant-loop-byte
invariant-loop-byte l = l.number ≡ fold with_byte l.before (take l.byte-index l.bytes)
