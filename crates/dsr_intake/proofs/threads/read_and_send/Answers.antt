use Rattle.dsr_intake.proofs.Common.{ap, ◌∙◌}
use Rattle.dsr_intake.proofs.Promises.{given_from_answer, given_at_end, nothing_was_put, told_memory}
use Rattle.dsr_intake.proofs.threads.read_and_send.Goals as goal

pub send_end-requires : goal.send_end-requires
send_end-requires g c = λ is.
    ap (λ f. f.sent) c.into_feed-feed.ensures
    ∙ nothing_was_put c.args.options (g.R.Source.told c.args.reader) (g.R.Source.told c.read_file-answer.new.reader) _ _ is c.read_file-answer.ensures.refused

pub returns-clause-given : goal.returns-clause-given
returns-clause-given g c =
    let before = g.R.Source.told c.args.reader in
    let after = g.R.Source.told c.read_file-answer.new.reader in
    let given = given_from_answer c.args.options before after _ _ c.read_file-answer.ensures.read c.read_file-answer.ensures.refused in
    given_at_end c.args.options before after _ _ _ (rw c.into_feed-feed.ensures given)
    c.send_end.ensures.memory (λ other. ap (λ f. f.sent) (c.send_end.ensures.other other))

pub returns-clause-memory : goal.returns-clause-memory
returns-clause-memory g c = λ ended.
    let before = g.R.Source.told c.args.reader in
    let after = g.R.Source.told c.read_file-answer.new.reader in
    c.wants_memory-memory.ensures
    ∙ told_memory c.args.options before after _ c.read_file-answer.result _ (rw c.into_feed-feed.ensures c.read_file-answer.ensures.outcome)
    (rw c.into_feed-feed.ensures c.read_file-answer.ensures.refused) c.send_end.ensures.memory
    (λ other. ap (λ f. f.sent) (c.send_end.ensures.other other)) ended
