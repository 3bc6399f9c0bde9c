use Rattle.std.proofs.Common.{◌≡◌, ◌+◌, take}
use Rattle.dsr_statement.specs.inner.Pieces.{Puts}
use Rattle.dsr_statement.specs.meaning.Seals.{inputs_from}
use Rattle.dsr_statement.specs.meaning.Statement.{text_of}
use Rattle.dsr_seal.proofs.write.put_inputs.Given as goal

abbrev pub invariant-loop-digest : goal.invariant-loop-digest
invariant-loop-digest g l =
    record {
      place : l.place ≡ l.digest-index + 1;
      lines : Puts g.W.Outlet.told l.fn.out l.out (text_of (inputs_from 1 (take l.digest-index l.inputs)));
    }
