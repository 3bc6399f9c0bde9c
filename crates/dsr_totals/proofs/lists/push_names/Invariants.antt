use Rattle.std.proofs.Common.{length}
use Rattle.dsr_totals.proofs.Listing.{HavePushed}
use Rattle.dsr_totals.proofs.lists.push_names.Given as goal

abbrev pub invariant-names : goal.invariant-names
invariant-names l = HavePushed l.end l.bytes l.rest l.fn.names l.names

abbrev pub decreases-names : goal.decreases-names
decreases-names l = length l.rest
