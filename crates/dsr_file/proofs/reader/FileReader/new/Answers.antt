use Rattle.dsr_file.proofs.Common.{refl, [], events_of}
use Rattle.dsr_file.proofs.reader.FileReader.new.Goals as goal

pub returns-clause-stands : goal.returns-clause-stands
unfolding events_of
returns-clause-stands c = record {
  at = (c.copy.ensures, refl, refl);
  phase_is = ([], c.in_ok-new.ensures.cuts, (c.new-2.ensures, refl, refl, (c.copy.ensures, refl, refl)));
}
