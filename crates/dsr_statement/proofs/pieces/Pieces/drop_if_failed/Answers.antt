use Rattle.dsr_statement.proofs.Common.{refl}
use Rattle.dsr_statement.proofs.Sending.{put_failed}
use Rattle.dsr_statement.proofs.pieces.Pieces.drop_if_failed.Goals as goal

pub returns-clause-dropped : goal.returns-clause-dropped
returns-clause-dropped g c is bytes =
    put_failed g.W.Outlet.told c.args.self.now (record c.args.self.now { waiting = c.clear.new.self }) bytes c.if-not-self.false refl c.clear.ensures
