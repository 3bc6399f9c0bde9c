use Rattle.dsr_ledger.proofs.Common.{◌≡◌, ◌++◌, flat_map}
use Rattle.dsr_ledger.proofs.findings.rejects_of.Given as goal

abbrev pub invariant-loop-file : goal.invariant-loop-file
invariant-loop-file l =
    l.rejects ++ flat_map (λ f. f.rejects.items) l.file-iterator.rest.items ≡ flat_map (λ f. f.rejects.items) l.fn.files.items
