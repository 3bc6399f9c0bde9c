use Rattle.dsr_events.proofs.OrderlyLaws.{orderly_push}
use Rattle.dsr_relay_tests.proofs.sending.ended_comes_back.Goals as goal

pub send-requires : goal.send-requires
send-requires g c =
    orderly_push _ _ c.sent_count-next.ensures.orderly c.requires.going c.sent_count-next.ensures.count (c.ended-part.ensures _)
