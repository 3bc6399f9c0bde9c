use Rattle.dsr_cells.proofs.Common.{refl}
use Rattle.dsr_cells.proofs.Eights.{eight_is}
use Rattle.dsr_cells.proofs.digits.number_of_eight.Goals as goal

pub returns-clause-value : goal.returns-clause-value
returns-clause-value c a b d e f g h k A B D E F G H K is = eight_is a b d e f g h k c.args.word A B D E F G H K is _ _ refl refl
