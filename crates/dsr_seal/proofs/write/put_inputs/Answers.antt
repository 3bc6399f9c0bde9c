use Rattle.std.proofs.Common.{ap, arith}
use Rattle.std.proofs.lemmas.List.{take_all}
use Rattle.dsr_statement.specs.declared.line.Line.TheVariants as lines
use Rattle.dsr_statement.specs.meaning.Lines.{line_bytes}
use Rattle.dsr_statement.specs.meaning.Seals.{inputs_from}
use Rattle.dsr_statement.specs.meaning.Statement.{text_of}
use Rattle.dsr_statement.proofs.LineLemmas.{turn}
use Rattle.dsr_seal.proofs.SealLines.{more_inputs}
use Rattle.dsr_seal.proofs.write.put_inputs.Goals as goal

pub loop-digest-preserved : goal.loop-digest-preserved
loop-digest-preserved g c =
    record {
      place = omega (arith, c.loop-digest.invariant.place);
      lines = more_inputs c.args.inputs.now c.loop-digest.digest-index c.loop-digest.place c.digest-item.result c.loop-digest-test.true
          c.loop-digest.invariant.place c.loop-digest.invariant.lines
          (turn c.put_line.ensures (ap (λ d. line_bytes (lines.Input c.loop-digest.place d)) c.as_ref.ensures)) c.digest-item.is;
    }

pub returns : goal.returns
returns g c =
    turn c.loop-digest.invariant.lines (ap (λ ds. text_of (inputs_from 1 ds)) (take_all c.loop-digest.digest-index c.args.inputs.now c.loop-digest-test.false))
