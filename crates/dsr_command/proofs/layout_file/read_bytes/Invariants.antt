use Rattle.dsr_command.proofs.Common.{◌≤◌, ◌-◌, length}
use Rattle.std.specs.Io.KnownBytes.{Consumes}
use Rattle.dsr_command.proofs.layout_file.read_bytes.Given as goal

abbrev pub invariant-loop-piece : goal.invariant-loop-piece
invariant-loop-piece g l =
    record {
      consumed : Consumes (g.R.Source.told l.fn.reader).remaining (g.R.Source.told l.reader).remaining l.bytes.items;
      most : length l.bytes.items ≤ 65537;
    }

abbrev pub decreases-loop-piece : goal.decreases-loop-piece
decreases-loop-piece g l = 65537 - length l.bytes.items
