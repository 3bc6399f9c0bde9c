use Rattle.dsr_ledger.proofs.Common.{◌≡◌, take}
use Rattle.dsr_ledger.proofs.view.copies.copy_parties.Given as goal

abbrev pub invariant-loop-party : goal.invariant-loop-party
invariant-loop-party l = l.parties ≡ take l.party-index l.view
