use Rattle.dsr_intake.proofs.Common.{run_orderly}
use Rattle.dsr_intake.proofs.feed_sink.FeedSinkSink.put.Goals as goal

pub send-requires : goal.send-requires
send-requires g c = rw c.self.view_is (run_orderly c.requires.0 c.requires.1 _ c.requires.2)
