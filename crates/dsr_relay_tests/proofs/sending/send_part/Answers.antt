use Rattle.std.proofs.Common.{arith}
use Rattle.std.proofs.lemmas.Grind.{common_steps}
use Rattle.dsr_events.proofs.OrderlyLaws.{orderly_push}
use Rattle.dsr_relay_tests.proofs.sending.send_part.Goals as goal

pub send-requires : goal.send-requires
send-requires g c = orderly_push _ _ c.sent_count-place.ensures.orderly c.requires.going c.sent_count-place.ensures.count c.requires.part

pub returns-clause-sent : goal.returns-clause-sent
returns-clause-sent g c = grind (arith, common_steps)
