use Rattle.dsr_statement.proofs.Common.{refl, ap, arith, take_all}
use Rattle.dsr_statement.specs.meaning.Lines.{line_bytes}
use Rattle.dsr_statement.specs.meaning.Statement.{files_from, text_of}
use Rattle.dsr_statement.proofs.LineLemmas.{turn, more_files}
use Rattle.dsr_statement.proofs.write.put_files.Goals as goal

pub loop-file-preserved : goal.loop-file-preserved
loop-file-preserved g c =
    record {
      place = omega (arith, c.loop-file.invariant.place);
      lines = more_files c.args.files.now c.loop-file.file-index c.loop-file.place _ c.loop-file-test.true
          c.loop-file.invariant.place c.loop-file.invariant.lines (turn c.put_line.ensures (ap line_bytes c.file_line.ensures)) refl;
    }

pub returns : goal.returns
returns g c =
    turn c.loop-file.invariant.lines (ap (λ fs. text_of (files_from 1 fs)) (take_all c.loop-file.file-index c.args.files.now c.loop-file-test.false))
