use Rattle.std.proofs.Common.{arith}
use Rattle.std.proofs.lemmas.Grind.{common_steps}
use Rattle.dsr_events.proofs.OrderlyLaws.{orderly_push}
use Rattle.dsr_relay_tests.proofs.reuse.exchanged_for.Goals as goal

pub send_block-requires-clause-orderly : goal.send_block-requires-clause-orderly
send_block-requires-clause-orderly g c =
    orderly_push _ _ c.sent_count-place.ensures.orderly c.requires.going c.sent_count-place.ensures.count (λ e. omega (arith, e, c.requires.few.0))

pub returns-clause-going : goal.returns-clause-going
returns-clause-going g c = grind (arith, common_steps)

pub returns-clause-few : goal.returns-clause-few
returns-clause-few g c = grind (arith, common_steps)

pub returns-clause-some : goal.returns-clause-some
returns-clause-some g c = grind (arith, common_steps)
