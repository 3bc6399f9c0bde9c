use Rattle.dsr_statement.proofs.Common.{◌≡◌, ◌+◌, take, Puts}
use Rattle.dsr_statement.specs.meaning.Statement.{files_from, text_of}
use Rattle.dsr_statement.proofs.write.put_files.Given as goal

abbrev pub invariant-loop-file : goal.invariant-loop-file
invariant-loop-file g l =
    record {
      place : l.place ≡ l.file-index + 1;
      lines : Puts g.W.Outlet.told l.fn.out l.out (text_of (files_from 1 (take l.file-index l.files)));
    }
