use Rattle.dsr_statement.proofs.Common.{◌++◌, take, flat_map, Puts}
use Rattle.dsr_statement.specs.inner.Rows.{sums_bytes, party_bytes}
use Rattle.dsr_statement.proofs.lines.put_own_ledger.Given as goal

abbrev pub invariant-loop-party : goal.invariant-loop-party
invariant-loop-party g l =
    Puts g.W.Outlet.told l.fn.out l.out (sums_bytes l.laid ++ flat_map (party_bytes l.laid) (take l.party-index l.party-items))
