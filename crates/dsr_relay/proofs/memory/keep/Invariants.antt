use Rattle.dsr_relay.proofs.Common.{◌≡◌, ◌+◌, ◌≤◌, length}
use Rattle.std.proofs.Common.{vec_len, vec_capacity}
use Rattle.arrayvec.specs.ArrayVec.{array_vec_len}
use Rattle.dsr_relay.proofs.memory.keep.Given as goal

abbrev pub invariant-loop : goal.invariant-loop
invariant-loop l =
    record {
      left : array_vec_len l.group + l.counter ≡ array_vec_len l.fn.group;
      all : length l.unused.items + array_vec_len l.group ≡ length l.fn.unused.items + array_vec_len l.fn.group;
      room : vec_len l.unused + array_vec_len l.group ≤ vec_capacity l.unused;
      same : vec_capacity l.unused ≡ vec_capacity l.fn.unused;
    }
