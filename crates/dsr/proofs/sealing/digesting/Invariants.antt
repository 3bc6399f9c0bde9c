use Rattle.std.proofs.Common.{◌≡◌, ◌++◌, [], All, map}
use Rattle.std.specs.Vec.Iter.{into_iter_items}
use Rattle.dsr.proofs.Digests.{keeps_digest}
use Rattle.dsr.proofs.sealing.digesting.Given as goal

abbrev pub invariant-loop-source : goal.invariant-loop-source
invariant-loop-source g l =
    record {
      inside : map (λ d. d.source) l.made.items ++ into_iter_items l.source-iterator ≡ l.fn.sources.items;
      nothing : All (λ d. keeps_digest d []) l.made.items;
    }
