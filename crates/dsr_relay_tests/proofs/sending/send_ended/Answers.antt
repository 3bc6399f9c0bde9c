use Rattle.dsr_relay_tests.proofs.sending.send_ended.Goals as goal

pub send_part-requires-clause-part : goal.send_part-requires-clause-part
send_part-requires-clause-part g c = c.ended.ensures _
