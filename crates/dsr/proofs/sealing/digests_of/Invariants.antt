use Rattle.std.proofs.Common.{◌+◌, ◌≤◌}
use Rattle.std.specs.Prelude.{vec_capacity, vec_len}
use Rattle.std.specs.Vec.Iter.{into_iter_items, into_iter_len}
use Rattle.dsr.proofs.Digests.{Digested, keeps_digest}
use Rattle.dsr.proofs.sealing.digests_of.Given as goal

abbrev pub invariant-loop-source : goal.invariant-loop-source
invariant-loop-source g l =
    record {
      digested : Digested keeps_digest l.fn.sources.items (into_iter_items l.source-iterator) l.digests.items;
      room : vec_len l.digests + into_iter_len l.source-iterator ≤ vec_capacity l.digests;
    }
