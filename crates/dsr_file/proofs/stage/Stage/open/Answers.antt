use Rattle.dsr_file.proofs.Common.{◌∙◌, record_seen}
use Rattle.dsr_file.proofs.StageLemmas.{opens_stage, opens_given}
use Rattle.dsr_file.proofs.stage.Stage.open.Goals as goal

pub returns-clause-next : goal.returns-clause-next
returns-clause-next c = c.close.ensures.next ∙ opens_stage c.args.self.now (record_seen c.args.line.now) _ c.in_ok-block.ensures.opens

pub returns-clause-given : goal.returns-clause-given
returns-clause-given c = c.close.ensures.given ∙ opens_given c.args.self.now (record_seen c.args.line.now) _ c.in_ok-block.ensures.opens
