use Rattle.dsr_intake.proofs.Common.{run_orderly}
use Rattle.dsr_intake.proofs.feed_sink.FeedSinkSink.put_block.Goals as goal

pub send_block-requires-clause-orderly : goal.send_block-requires-clause-orderly
send_block-requires-clause-orderly g c = rw c.self.view_is (run_orderly c.requires.run.0 c.requires.run.1 _ c.requires.run.2)
